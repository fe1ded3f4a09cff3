use Rattle.std.proofs.Common.{◌≡◌, ◌<◌, ℕ, List, ◌+◌, get_or, take, length, max, ap, sym, subst, ◌∙◌}
use Rattle.ft_types.specs.Counts.{count_at, greater}
use Rattle.hart_replay.specs.declared.plans.PlannedLeg.{PlannedLeg}
use Rattle.hart_replay.specs.Plans.{PlanView, IsLeg, noted_in}
use Rattle.hart_replay.proofs.walking.Marks.{greater_at, length_greater, noted_more}
use Rattle.hart_replay.proofs.plans.Plan.marks.Goals as goal

pub loop-leg-preserved : goal.loop-leg-preserved
loop-leg-preserved c =
    let i : ℕ = c.loop-leg.leg-index in
    let leg : PlannedLeg = c.leg-item.result in
    let kept : List PlannedLeg = c.self.inside.legs.items in
    let marks : List ℕ = c.loop-leg.marks in
    let less : i < length kept = subst (λ (l : List PlannedLeg). i < length l) c.deref-leg-items.ensures.value c.loop-leg-test.true in
    let is : leg ≡ get_or kept i leg = subst (λ (l : List PlannedLeg). leg ≡ get_or l i leg) c.deref-leg-items.ensures.value c.leg-item.is in
    let own : IsLeg c.self.inside.guest.harts leg
    = subst (IsLeg c.self.inside.guest.harts) (sym is) (c.self.invariant.each i leg less) in
    let same : length marks ≡ length leg.marks
    = c.loop-leg.invariant.harts ∙ ap (λ (p : PlanView). p.guest.harts) (sym c.self.view_is) ∙ sym own.marks in
    record {
      harts = ap length c.max-marks.ensures ∙ length_greater marks leg.marks same ∙ c.loop-leg.invariant.harts;
      greatest = λ hart.
          ap (λ (m : List ℕ). count_at m hart) c.max-marks.ensures ∙ greater_at marks leg.marks same hart
          ∙ ap (λ n. max n (count_at leg.marks hart)) (c.loop-leg.invariant.greatest hart)
          ∙ subst (λ (p : PlanView). max (noted_in (take i p.legs) hart) (count_at leg.marks hart) ≡ noted_in (take (i + 1) p.legs) hart) c.self.view_is
          (sym (noted_more kept i leg hart less is));
    }
