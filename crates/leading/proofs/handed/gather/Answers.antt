use Rattle.std.proofs.Common.{◌≡◌, [], ◌∷◌, ◌++◌, List, sym, ap, ◌∙◌, append_assoc}
use Rattle.std.specs.Vec.Iter.{into_iter_items}
use Rattle.std.proofs.lemmas.Result.{err_from_is_err_and}
use Rattle.fragment_codec.specs.declared.frame.Frame.{Frame}
use Rattle.log_join.specs.Stores.{nothing}
use Rattle.stations.proofs.Held.{come_one}
use Rattle.leading.proofs.Gathering.{gather_fault}
use Rattle.leading.proofs.handed.gather.Goals as goal

pub loop-frame-preserved : goal.loop-frame-preserved
loop-frame-preserved c =
    let at = c.loop-frame in
    let frame = c.in-Some.frame in
    let steps : into_iter_items at.frame-iterator ≡ frame ∷ into_iter_items c.next.new.self = c.in-Some.ensures.steps.0 in (
      come_one (nothing c.args.guest) at.store c.put.new.store at.yielded frame at.invariant.0 c.in_ok-put.ensures.joined,
      append_assoc at.yielded (frame ∷ []) _ ∙ rw (← steps) at.invariant.1,
    )

pub returns-in_err-put-clause-fault : goal.returns-in_err-put-clause-fault
returns-in_err-put-clause-fault c =
    let at = c.loop-frame in
    let frame = c.in-Some.frame in
    let steps : into_iter_items at.frame-iterator ≡ frame ∷ into_iter_items c.next.new.self = c.in-Some.ensures.steps.0 in
    let parts : c.args.frames.items ≡ at.yielded ++ frame ∷ into_iter_items c.next.new.self =
    sym (ap (λ (xs : List Frame). at.yielded ++ xs) (sym steps) ∙ at.invariant.1 ∙ c.into_iter-frame-iterator.ensures.into_iter_gives.0) in
    let p = err_from_is_err_and c.from_residual.result c.from_residual.ensures.1 in
    rw (p.1, p.2) (gather_fault c.args.guest c.args.frames.items at.yielded (into_iter_items c.next.new.self) frame at.store
    c.in_err-put.field-0.0 parts at.invariant.0 c.in_err-put.ensures.fault)
