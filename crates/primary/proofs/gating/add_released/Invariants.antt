use Rattle.std.proofs.Common.{◌≡◌, ◌+◌, ◌-◌, ◌≤◌, ◌++◌, length, take, vec_len, vec_capacity}
use Rattle.primary.specs.Gating.{released_in}
use Rattle.primary.proofs.gating.add_released.Given as goal

abbrev pub invariant-loop-output : goal.invariant-loop-output
invariant-loop-output l =
    (l.released.items ≡ l.fn.released.items ++ released_in l.term (take l.output-index l.given)) ×
    (vec_len l.released + (length l.given - l.output-index) ≤ vec_capacity l.released)
