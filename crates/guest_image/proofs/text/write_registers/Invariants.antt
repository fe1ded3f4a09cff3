use Rattle.std.proofs.Common.{◌+◌, drop}
use Rattle.ft_types.proofs.Writings.{IsLeft}
use Rattle.guest_image.specs.Text.{numbered, register_line}
use Rattle.guest_image.proofs.text.write_registers.Given as goal

abbrev pub invariant-loop-i : goal.invariant-loop-i
invariant-loop-i g l = IsLeft (g.W.Sink.bytes l.fn.out) (g.W.Sink.bytes l.out) (g.W.Sink.failures l.fn.out)
    (g.W.Sink.failures l.out) (numbered register_line l.first l.values)
    (numbered register_line (l.first + l.i) (drop l.i l.values))
