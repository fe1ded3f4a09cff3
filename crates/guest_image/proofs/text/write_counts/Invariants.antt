use Rattle.std.proofs.Common.{drop}
use Rattle.ft_types.proofs.Writings.{IsLeft}
use Rattle.guest_image.specs.Text.{numbered, count_line}
use Rattle.guest_image.proofs.text.write_counts.Given as goal

abbrev pub invariant-loop-i : goal.invariant-loop-i
invariant-loop-i g l = IsLeft (g.W.Sink.bytes l.fn.out) (g.W.Sink.bytes l.out) (g.W.Sink.failures l.fn.out)
    (g.W.Sink.failures l.out) (numbered (count_line l.name) 0 l.counts)
    (numbered (count_line l.name) l.i (drop l.i l.counts))
