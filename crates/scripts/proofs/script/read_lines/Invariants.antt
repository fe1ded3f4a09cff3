use Rattle.std.proofs.Common.{length}
use Rattle.scripts.specs.Script.{LinesThen}
use Rattle.scripts.proofs.script.read_lines.Given as goal

abbrev pub invariant-loop-rest : goal.invariant-loop-rest
invariant-loop-rest l = LinesThen l.harts l.bytes l.script.items l.rest

abbrev pub decreases-loop-rest : goal.decreases-loop-rest
decreases-loop-rest l = length l.rest
