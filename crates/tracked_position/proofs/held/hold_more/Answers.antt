use Rattle.std.proofs.Common.{◌≡◌, true, false, None, get_or, sym, subst, ◌∙◌, arith}
use Rattle.std.proofs.lemmas.List.{get_or_default}
use Rattle.tracked_position.specs.machinery.Waits.{Free, Behind}
use Rattle.tracked_position.proofs.Bounds.{set_held}
use Rattle.tracked_position.proofs.held.hold_more.Goals as goal
use Rattle.tracked_position.proofs.held.hold_more.Goals.{in-None, in-Some}

pub loop-index-preserved : goal.loop-index-preserved
loop-index-preserved c =
    let waits = c.args.waits.now in
    let at = c.loop-index.index in
    set_held c.loop-index.held waits at c.match-waits_for.held c.loop-index.invariant
    (λ is.
    elim c.match-waits_for.branch [
      | in-None w ↦ Free (get_or_default waits at None c.index-waits-index.result (omega arith) ∙ w.in-None.is)
      | in-Some w ↦
          Behind w.in-Some.other (get_or_default waits at None c.index-waits-index.result (omega arith) ∙ w.in-Some.is)
          (c.loop-index.invariant w.in-Some.other
          (subst (λ n. get_or c.loop-index.held n false ≡ true) w.index.ensures.value (sym w.held-is ∙ is)))
    ])
