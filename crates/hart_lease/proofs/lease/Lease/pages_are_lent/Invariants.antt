use Rattle.std.proofs.Common.{ℕ, ◌<◌}
use Rattle.hart_lease.specs.Leases.{IsLentAt}
use Rattle.hart_lease.proofs.lease.Lease.pages_are_lent.Given as goal

abbrev pub invariant-loop-number : goal.invariant-loop-number
invariant-loop-number l = (page : ℕ) → page < l.number → IsLentAt l.machine l.self page
