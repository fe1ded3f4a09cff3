use Rattle.std.proofs.Common.{ℕ, ◌<◌, ◌≤◌, ◌≢◌, slice_index}
use Rattle.log_audit.specs.machinery.Marks.{used_by, uses_at}
use Rattle.log_audit.proofs.marks.Marks.against.Given as goal

abbrev pub invariant-loop-number : goal.invariant-loop-number
invariant-loop-number l =
    (other : ℕ) → other < l.number → other ≢ l.hart → used_by (uses_at l.self l.fn.page) l.want other ≤ slice_index l.before other
