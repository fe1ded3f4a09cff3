use Rattle.std.proofs.Common.{◌≡◌, [], ◌∷◌, ◌++◌, List, sym, ap, subst, ◌∙◌, append_assoc}
use Rattle.std.specs.Vec.Iter.{into_iter_items}
use Rattle.std.proofs.lemmas.Result.{err_from_is_err_and}
use Rattle.fragment_codec.specs.declared.frame.Frame.{Frame}
use Rattle.log_streams.specs.machinery.Reading.{Takes}
use Rattle.log_streams.proofs.StreamLemmas.{takes_one, taken_among}
use Rattle.log_streams.proofs.reading.put_all.Goals as goal

pub loop-frame-preserved : goal.loop-frame-preserved
loop-frame-preserved c =
    let at = c.loop-frame in
    let frame = c.in-Some.frame in
    let steps : into_iter_items at.frame-iterator ≡ frame ∷ into_iter_items c.next.new.self = c.in-Some.ensures.steps.0 in (
      λ first given t.
          subst (λ (xs : List Frame). Takes first xs c.put_frame.new.store) (append_assoc given at.yielded (frame ∷ []))
          (takes_one first at.store c.put_frame.new.store (given ++ at.yielded) frame (at.invariant.0 first given t) c.in_ok-put_frame.ensures.own
          c.in_ok-put_frame.ensures.joined),
      append_assoc at.yielded (frame ∷ []) _ ∙ rw (← steps) at.invariant.1,
    )

pub returns-in_err-put_frame-clause-fault : goal.returns-in_err-put_frame-clause-fault
returns-in_err-put_frame-clause-fault c =
    let at = c.loop-frame in
    let frame = c.in-Some.frame in
    let steps : into_iter_items at.frame-iterator ≡ frame ∷ into_iter_items c.next.new.self = c.in-Some.ensures.steps.0 in
    let parts : c.args.frames.items ≡ at.yielded ++ frame ∷ into_iter_items c.next.new.self =
    sym (ap (λ (xs : List Frame). at.yielded ++ xs) (sym steps) ∙ at.invariant.1 ∙ c.into_iter-frame-iterator.ensures.into_iter_gives.0) in
    let p = err_from_is_err_and c.from_residual.result c.from_residual.ensures.1 in
    rw (p.1, p.2) (λ first given t.
    taken_among first given at.store c.args.frames.items at.yielded frame (into_iter_items c.next.new.self) c.in_err-put_frame.field-0.0 parts
    (at.invariant.0 first given t) c.in_err-put_frame.ensures.fault)
