use Rattle.std.proofs.Common.{◌-◌, ◌≤◌, drop, length}
use Rattle.ft_types.proofs.Writings.{IsLeft}
use Rattle.guest_image.specs.Text.{numbered, output_line}
use Rattle.guest_image.specs.machinery.Fronts.{AreFronts}
use Rattle.guest_image.proofs.text.write_outputs.Given as goal

abbrev pub invariant-loop-first : goal.invariant-loop-first
invariant-loop-first g l =
    (l.first ≤ length l.outputs)
    × AreFronts l.fronts
    × IsLeft (g.W.Sink.bytes l.fn.out) (g.W.Sink.bytes l.out) (g.W.Sink.failures l.fn.out)
    (g.W.Sink.failures l.out) (numbered output_line 0 l.outputs) (numbered output_line l.first (drop l.first l.outputs))

abbrev pub decreases-loop-first : goal.decreases-loop-first
decreases-loop-first g l = length l.outputs - l.first
