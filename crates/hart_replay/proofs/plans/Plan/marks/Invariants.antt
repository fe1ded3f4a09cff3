use Rattle.std.proofs.Common.{◌≡◌, ℕ, take, length}
use Rattle.ft_types.specs.Counts.{count_at}
use Rattle.hart_replay.specs.Plans.{noted_in}
use Rattle.hart_replay.proofs.plans.Plan.marks.Given as goal

abbrev pub invariant-loop-leg : goal.invariant-loop-leg
invariant-loop-leg l = record {
  harts : length l.marks ≡ l.self.guest.harts;
  greatest : (hart : ℕ) → count_at l.marks hart ≡ noted_in (take l.leg-index l.self.legs) hart;
}
