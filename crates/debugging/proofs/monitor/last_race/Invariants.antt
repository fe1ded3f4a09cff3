use Rattle.debugging.specs.Sessions.{IsOfLine}
use Rattle.debugging.proofs.monitor.last_race.Given as goal

abbrev pub invariant-loop-look : goal.invariant-loop-look
invariant-loop-look l = IsOfLine l.fn.line l.line
