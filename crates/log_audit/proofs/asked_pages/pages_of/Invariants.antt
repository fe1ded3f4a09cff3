use Rattle.std.proofs.Common.{◌≡◌, take}
use Rattle.log_audit.proofs.asked_pages.pages_of.Given as goal

abbrev pub invariant-loop-number : goal.invariant-loop-number
invariant-loop-number l = l.pages.items ≡ take l.number l.machine.pages
