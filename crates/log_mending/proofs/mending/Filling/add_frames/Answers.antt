use Rattle.std.proofs.Common.{◌≡◌, [], ◌∷◌, ◌++◌, List, sym, ap, subst, ◌∙◌, append_assoc}
use Rattle.std.specs.Vec.Iter.{into_iter_items}
use Rattle.std.proofs.lemmas.Result.{err_from_is_err_and}
use Rattle.fragment_codec.specs.declared.frame.Frame.{Frame}
use Rattle.log_mending.specs.Mending.{IsFilled}
use Rattle.log_mending.proofs.Filled.{frames_fault}
use Rattle.log_mending.proofs.mending.Filling.add_frames.Goals as goal

pub loop-frame-preserved : goal.loop-frame-preserved
loop-frame-preserved c =
    let at = c.loop-frame in
    let frame = c.in-Some.frame in
    let new = c.add_frame.new.self in
    let steps : into_iter_items at.frame-iterator ≡ frame ∷ into_iter_items c.next.new.self = c.in-Some.ensures.steps.0 in (
      (λ guest front own given f.
          subst (λ (fs : List Frame). IsFilled guest front own fs new.fresh.items new.store) (append_assoc given at.yielded (frame ∷ []))
          (c.in_ok-add_frame.ensures.filled guest front own (given ++ at.yielded) (at.invariant.0 guest front own given f))),
      append_assoc at.yielded (frame ∷ []) _ ∙ rw (← steps) at.invariant.1,
    )

pub returns-in_err-add_frame-clause-fault : goal.returns-in_err-add_frame-clause-fault
returns-in_err-add_frame-clause-fault c =
    let at = c.loop-frame in
    let frame = c.in-Some.frame in
    let steps : into_iter_items at.frame-iterator ≡ frame ∷ into_iter_items c.next.new.self = c.in-Some.ensures.steps.0 in
    let parts : c.args.frames.items ≡ at.yielded ++ frame ∷ into_iter_items c.next.new.self =
    sym (ap (λ (xs : List Frame). at.yielded ++ xs) (sym steps) ∙ at.invariant.1 ∙ c.into_iter-frame-iterator.ensures.into_iter_gives.0) in
    let p = err_from_is_err_and c.from_residual.result c.from_residual.ensures.1 in
    rw (p.1, p.2) (λ guest front own given f.
    frames_fault guest own given at.yielded (into_iter_items c.next.new.self) c.args.frames.items frame at.self.store c.args.number
    c.in_err-add_frame.field-0.0 parts (at.invariant.0 guest front own given f).all c.in_err-add_frame.ensures.fault)
