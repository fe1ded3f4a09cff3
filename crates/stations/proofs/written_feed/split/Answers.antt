use Rattle.std.proofs.Common.{◌≡◌, [], ◌∷◌, ◌++◌, List, sym, ap, subst, ◌∙◌, append_assoc, rules}
use Rattle.std.proofs.lemmas.List.{nil_from_length}
use Rattle.std.specs.Vec.Iter.{into_iter_items}
use Rattle.fragment_codec.specs.declared.frame.Frame.{Frame}
use Rattle.fragment_codec.specs.Streams.{Splits}
use Rattle.fragment_codec.proofs.streams.Splits.{splits_nothing}
use Rattle.stations.proofs.Spellings.{apart}
use Rattle.stations.proofs.written_feed.split.Goals as goal

pub frame_size-requires : goal.frame_size-requires
frame_size-requires c =
    let at = c.loop-frame in
    let start = subst (λ (fs : List Frame). Splits c.args.bytes.now fs c.requires.0) (sym c.into_iter-frame-iterator.ensures.into_iter_gives.0) c.requires.1 in
    (apart c.args.bytes.now at.rest.now c.requires.0 _ _ (into_iter_items c.next.new.self) c.in-Some.frame at.invariant.1 c.in-Some.ensures.steps.0 start).len

pub split_at-requires : goal.split_at-requires
split_at-requires c =
    let at = c.loop-frame in
    let start = subst (λ (fs : List Frame). Splits c.args.bytes.now fs c.requires.0) (sym c.into_iter-frame-iterator.ensures.into_iter_gives.0) c.requires.1 in
    rw c.frame_size.ensures
    (apart c.args.bytes.now at.rest.now c.requires.0 _ _ (into_iter_items c.next.new.self) c.in-Some.frame at.invariant.1 c.in-Some.ensures.steps.0 start).within

pub of-requires : goal.of-requires
of-requires c =
    let at = c.loop-frame in
    let start = subst (λ (fs : List Frame). Splits c.args.bytes.now fs c.requires.0) (sym c.into_iter-frame-iterator.ensures.into_iter_gives.0) c.requires.1 in
    rw (c.split_at.ensures.front, c.frame_size.ensures)
    (apart c.args.bytes.now at.rest.now c.requires.0 _ _ (into_iter_items c.next.new.self) c.in-Some.frame at.invariant.1 c.in-Some.ensures.steps.0 start).own

pub loop-frame-preserved : goal.loop-frame-preserved
loop-frame-preserved c =
    let at = c.loop-frame in
    let frame = c.in-Some.frame in
    let steps : into_iter_items at.frame-iterator ≡ frame ∷ into_iter_items c.next.new.self = c.in-Some.ensures.steps.0 in
    let pushed : c.push.new.self.items ≡ at.written.items ++ frame ∷ [] = search rules in (
      ap (λ (xs : List Frame). xs ++ into_iter_items c.next.new.self) pushed
          ∙ append_assoc at.written.items (frame ∷ []) _ ∙ rw (← steps) at.invariant.0,
      λ last s.
          rw (c.split_at.ensures.back, c.frame_size.ensures)
          (apart c.args.bytes.now at.rest.now last _ _ (into_iter_items c.next.new.self) frame at.invariant.1 steps s).others,
    )

pub returns-clause-rest : goal.returns-clause-rest
returns-clause-rest c = λ last s.
    let at = c.loop-frame in
    let all = subst (λ (fs : List Frame). Splits c.args.bytes.now fs last) (sym c.into_iter-frame-iterator.ensures.into_iter_gives.0) s in
    let none : into_iter_items at.frame-iterator ≡ [] = nil_from_length (into_iter_items at.frame-iterator) (search rules) in
    let copied : c.in_ok-to_vec.field-0.items ≡ at.rest.now = search rules in
    copied ∙ splits_nothing at.rest.now last (subst (λ (fs : List Frame). Splits at.rest.now fs last) none (at.invariant.1 last all))
