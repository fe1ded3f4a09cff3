use Rattle.std.proofs.Common.{◌≡◌, ◌++◌, [], List, ℕ, sym, ap, subst, ◌∙◌, append_assoc, append-nil}
use Rattle.std.specs.Slice.Iter.{chunks_rest}
use Rattle.std.proofs.lemmas.List.{nil_from_length}
use Rattle.std.proofs.lemmas.Result.{err_from_is_err_and}
use Rattle.fragment_codec.specs.declared.frame.Frame.{Frame}
use Rattle.fragment_codec.specs.Streams.{Follows}
use Rattle.live_world.specs.Calls.{TakesAll}
use Rattle.live_world.proofs.Taking.{all_come, no_fault, not_then, push_fails, takes_then, to_come}
use Rattle.live_world.proofs.keepers.take_stream.Goals as goal

-- a piece of a stream is behind those before it
piece_more : (stream front left piece behind : List ℕ) → stream ≡ front ++ left → left ≡ piece ++ behind → stream ≡ (front ++ piece) ++ behind
piece_more stream front left piece behind parts steps =
    parts ∙ ap (λ (x : List ℕ). front ++ x) steps ∙ sym (append_assoc front piece behind)

pub returns-in_err-take_all-in-Ok-clause-some : goal.returns-in_err-take_all-in-Ok-clause-some
returns-in_err-take_all-in-Ok-clause-some c = λ frames all.
    let stream = c.args.stream.now in
    let (front, given, parts, follows, taken) = c.loop-piece.invariant in
    let piece = c.in-Some.piece.now in
    let behind = chunks_rest c.next.new.self in
    let more = piece_more stream front (chunks_rest c.loop-piece.piece-iterator) piece behind parts c.in-Some.ensures.steps.1.0 in
    let come = c.in-Ok.frames.items in
    let others = to_come stream frames all (front ++ piece) behind (given ++ come) c.in-Ok.next more (c.in-Ok.ensures.given front given follows) in
    let p = err_from_is_err_and c.from_residual-in_err-take_all-in-Ok.result c.from_residual-in_err-take_all-in-Ok.ensures.1 in
    rw (p.1, p.2) (not_then frames given come others.0 c.args.site.now c.loop-piece.site c.take_all.new.site c.in_err-take_all-in-Ok.field-0.0 others.1 taken
    c.in_err-take_all-in-Ok.ensures.some)

pub loop-piece-preserved : goal.loop-piece-preserved
loop-piece-preserved c =
    let (front, given, parts, follows, taken) = c.loop-piece.invariant in
    let piece = c.in-Some.piece.now in
    let come = c.in-Ok.frames.items in (
      front ++ piece,
      given ++ come,
      piece_more c.args.stream.now front (chunks_rest c.loop-piece.piece-iterator) piece (chunks_rest c.next.new.self) parts c.in-Some.ensures.steps.1.0,
      c.in-Ok.ensures.given front given follows,
      takes_then given come c.args.site.now c.loop-piece.site c.take_all.new.site taken c.in_ok-take_all-in-Ok.ensures.taken,
    )

pub returns-in-Err-clause-some : goal.returns-in-Err-clause-some
returns-in-Err-clause-some c = λ frames all.
    let stream = c.args.stream.now in
    let (front, given, parts, follows, taken) = c.loop-piece.invariant in
    let piece = c.in-Some.piece.now in
    let left = chunks_rest c.loop-piece.piece-iterator in
    let behind = chunks_rest c.next.new.self in
    let more = piece_more stream front left piece behind parts c.in-Some.ensures.steps.1.0 in
    let others = to_come stream frames all front left given c.loop-piece.feed parts follows in
    push_fails frames given others.0 c.args.site.now c.loop-piece.site c.in-Err.fault c.fault_of.result others.1 taken c.fault_of.ensures
    (λ other.
    let at = c.in-Err.ensures.fault front given follows other in
    no_fault stream frames all (front ++ piece) behind given at.0 c.in-Err.fault more at.1 at.2)

pub returns-clause-taken : goal.returns-clause-taken
returns-clause-taken c = λ frames all.
    let stream = c.args.stream.now in
    let (front, given, parts, follows, taken) = c.loop-piece.invariant in
    let left = chunks_rest c.loop-piece.piece-iterator in
    let none : left ≡ [] = nil_from_length left c.in-None.ensures.steps.1.0 in
    let whole : stream ≡ front = parts ∙ ap (λ (x : List ℕ). front ++ x) none ∙ append-nil front in
    let same : given ≡ frames = all_come stream frames all given c.loop-piece.feed (subst (λ (x : List ℕ). Follows x given c.loop-piece.feed) (sym whole) follows) in
    subst (λ (fs : List Frame). TakesAll fs c.args.site.now c.loop-piece.site) same taken
