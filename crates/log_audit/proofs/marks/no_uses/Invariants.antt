use Rattle.std.proofs.Common.{◌≡◌, replicate}
use Rattle.log_audit.specs.machinery.Marks.{unused}
use Rattle.log_audit.proofs.marks.no_uses.Given as goal

abbrev pub invariant-loop-page : goal.invariant-loop-page
invariant-loop-page l = l.uses.items ≡ replicate l._page unused
