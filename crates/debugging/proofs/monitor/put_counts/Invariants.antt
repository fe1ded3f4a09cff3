use Rattle.std.proofs.Common.{◌≡◌, ◌++◌}
use Rattle.debugging.specs.Monitor.{counts_text}
use Rattle.debugging.proofs.monitor.put_counts.Given as goal

abbrev pub invariant-loop-number : goal.invariant-loop-number
invariant-loop-number l = l.text.items ≡ l.fn.text.items ++ counts_text l.line.stands.machine l.number
