use Rattle.std.proofs.Common.{drop}
use Rattle.std.specs.List.{flat_map}
use Rattle.ft_types.proofs.Writings.{IsLeft}
use Rattle.command_line.specs.FailingOver.{released_line}
use Rattle.command_line.proofs.failing_over.write_released.Given as goal

abbrev pub invariant-loop-one : goal.invariant-loop-one
invariant-loop-one g l = IsLeft (g.W.Sink.bytes l.fn.out) (g.W.Sink.bytes l.out) (g.W.Sink.failures l.fn.out)
    (g.W.Sink.failures l.out) (flat_map released_line l.released) (flat_map released_line (drop l.one-index l.released))
