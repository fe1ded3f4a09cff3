use Rattle.std.proofs.Common.{take}
use Rattle.log_audit.specs.machinery.Befores.{AreBrought}
use Rattle.log_audit.proofs.befores.Befores.bring.Given as goal

abbrev pub invariant-loop-edge : goal.invariant-loop-edge
invariant-loop-edge l = AreBrought l.fn.self l.initial.steps (take l.edge-index l.edges) l.steps
