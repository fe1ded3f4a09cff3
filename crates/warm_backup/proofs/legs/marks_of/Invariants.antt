use Rattle.std.proofs.Common.{◌≡◌, ℕ, take, length}
use Rattle.ft_types.specs.Counts.{count_at}
use Rattle.hart_replay.specs.Plans.{noted_in}
use Rattle.warm_backup.proofs.legs.marks_of.Given as goal

abbrev pub invariant-loop-leg : goal.invariant-loop-leg
invariant-loop-leg l = record {
  harts : length l.marks ≡ l.harts;
  greatest : (hart : ℕ) → count_at l.marks hart ≡ noted_in (take l.leg-index l.legs) hart;
}
