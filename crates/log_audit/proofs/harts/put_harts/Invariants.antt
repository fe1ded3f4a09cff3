use Rattle.std.proofs.Common.{◌≡◌, ◌++◌, take, drop}
use Rattle.log_audit.proofs.harts.put_harts.Given as goal

abbrev pub invariant-loop-number : goal.invariant-loop-number
invariant-loop-number l =
    l.machine ≡ record l.fn.machine { harts = take l.number l.harts ++ drop l.number l.fn.machine.harts }
