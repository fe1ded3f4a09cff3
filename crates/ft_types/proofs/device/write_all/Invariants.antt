use Rattle.std.proofs.Common.{length}
use Rattle.ft_types.proofs.Writings.{IsLeft}
use Rattle.ft_types.proofs.device.write_all.Given as goal

abbrev pub invariant-loop-rest : goal.invariant-loop-rest
invariant-loop-rest g l = IsLeft (g.W.Sink.bytes l.fn.out) (g.W.Sink.bytes l.out) (g.W.Sink.failures l.fn.out) (g.W.Sink.failures l.out) l.piece l.rest

abbrev pub decreases-loop-rest : goal.decreases-loop-rest
decreases-loop-rest g l = length l.rest
