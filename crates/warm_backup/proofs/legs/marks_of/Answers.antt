use Rattle.std.proofs.Common.{◌≡◌, ◌<◌, ℕ, List, length, max, ap, arith, sym, subst, ◌∙◌}
use Rattle.std.proofs.lemmas.List.{take_all}
use Rattle.ft_types.specs.Counts.{count_at}
use Rattle.hart_replay.specs.declared.plans.PlannedLeg.{PlannedLeg}
use Rattle.hart_replay.specs.Plans.{noted_in}
use Rattle.hart_replay.proofs.walking.Marks.{greater_at, length_greater, noted_more}
use Rattle.warm_backup.proofs.legs.marks_of.Goals as goal

pub loop-leg-preserved : goal.loop-leg-preserved
loop-leg-preserved c =
    let i : ℕ = c.loop-leg.leg-index in
    let legs : List PlannedLeg = c.args.legs.now in
    let leg : PlannedLeg = c.leg-item.result in
    let marks : List ℕ = c.loop-leg.marks in
    let less : i < length legs = omega arith in
    let own : length leg.marks ≡ c.args.harts
    = subst (λ (l : PlannedLeg). length l.marks ≡ c.args.harts) (sym c.leg-item.is) (c.requires.marks i leg less) in
    let same : length marks ≡ length leg.marks = c.loop-leg.invariant.harts ∙ sym own in
    record {
      harts = ap length c.max-marks.ensures ∙ length_greater marks leg.marks same ∙ c.loop-leg.invariant.harts;
      greatest = λ hart.
          ap (λ (m : List ℕ). count_at m hart) c.max-marks.ensures ∙ greater_at marks leg.marks same hart
          ∙ ap (λ n. max n (count_at leg.marks hart)) (c.loop-leg.invariant.greatest hart)
          ∙ sym (noted_more legs i leg hart less c.leg-item.is);
    }

pub returns-clause-greatest : goal.returns-clause-greatest
returns-clause-greatest c = λ hart.
    c.loop-leg.invariant.greatest hart
    ∙ ap (λ (legs : List PlannedLeg). noted_in legs hart) (take_all c.loop-leg.leg-index c.args.legs.now (omega arith))
