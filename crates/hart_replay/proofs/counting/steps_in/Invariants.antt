use Rattle.std.proofs.Common.{◌≡◌, ◌≤◌, ◌*◌, ℕ, List, take}
use Rattle.std.specs.List.{sum}
use Rattle.hart_replay.proofs.counting.steps_in.Given as goal

pub record SoFar (steps number : ℕ) (counts : List ℕ) : Type 0 where
  pub sum_is : steps ≡ sum (take number counts)
  pub most : steps ≤ number * 281474976710656

abbrev pub invariant-loop-number : goal.invariant-loop-number
invariant-loop-number l = SoFar l.steps l.number l.counts
