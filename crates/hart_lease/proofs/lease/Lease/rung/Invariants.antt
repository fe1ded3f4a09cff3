use Rattle.std.proofs.Common.{◌≡◌, ◌<◌, ℕ, slice_index}
use Rattle.hart_lease.proofs.lease.Lease.rung.Given as goal

abbrev pub invariant-loop-number : goal.invariant-loop-number
invariant-loop-number l = (k : ℕ) → k < l.number → slice_index l.self.present.rung k ≡ slice_index l.self.base.rung k
