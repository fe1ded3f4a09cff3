use Rattle.std.proofs.Common.{◌-◌, ◌≤◌, drop, length}
use Rattle.std.specs.List.{flat_map}
use Rattle.ft_types.proofs.Writings.{IsLeft}
use Rattle.pair.specs.Printing.{output_line}
use Rattle.pair.proofs.printing.write_outputs.Given as goal

abbrev pub invariant-loop-first : goal.invariant-loop-first
invariant-loop-first g l =
    (l.first ≤ length l.outputs)
    × IsLeft (g.W.Sink.bytes l.fn.out) (g.W.Sink.bytes l.out) (g.W.Sink.failures l.fn.out)
    (g.W.Sink.failures l.out) (flat_map output_line l.outputs) (flat_map output_line (drop l.first l.outputs))

abbrev pub decreases-loop-first : goal.decreases-loop-first
decreases-loop-first g l = length l.outputs - l.first
