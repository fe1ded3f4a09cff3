use Rattle.std.proofs.Common.{take}
use Rattle.pair.specs.Warm.{AreSaid}
use Rattle.pair.proofs.known.are_said.Given as goal

abbrev pub invariant-loop-output : goal.invariant-loop-output
invariant-loop-output l = AreSaid l.machine (take l.output-index l.released)
