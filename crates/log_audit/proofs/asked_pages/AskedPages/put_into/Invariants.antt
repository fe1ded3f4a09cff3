use Rattle.std.proofs.Common.{◌≡◌, ◌++◌, take, drop}
use Rattle.log_audit.proofs.asked_pages.AskedPages.put_into.Given as goal

abbrev pub invariant-loop-number : goal.invariant-loop-number
invariant-loop-number l =
    l.machine ≡ record l.fn.machine { pages = take l.number l.self.contents ++ drop l.number l.fn.machine.pages }
