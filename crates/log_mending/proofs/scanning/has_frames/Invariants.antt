use Rattle.std.proofs.Common.{ℕ, ◌<◌, drop}
use Rattle.log_mending.specs.Mending.{HasFrame}
use Rattle.log_mending.proofs.scanning.has_frames.Given as goal

abbrev pub invariant-loop-at : goal.invariant-loop-at
invariant-loop-at l = (k : ℕ) → k < l.at → HasFrame (drop k l.bytes) → ⊥
