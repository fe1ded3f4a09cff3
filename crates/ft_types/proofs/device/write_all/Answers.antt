use Rattle.ft_types.proofs.Writings.{left_written}
use Rattle.ft_types.proofs.device.write_all.Goals as goal

pub loop-rest-preserved : goal.loop-rest-preserved
loop-rest-preserved g c =
    left_written (g.W.Sink.bytes c.args.out.now) (g.W.Sink.bytes c.loop-rest.out) (g.W.Sink.bytes c.write.new.self) (g.W.Sink.failures c.args.out.now)
    (g.W.Sink.failures c.loop-rest.out) (g.W.Sink.failures c.write.new.self) c.args.piece.now c.loop-rest.rest.now c.in_ok-count.count
    c.in_ok-count.ensures.at_most c.loop-rest.invariant c.in_ok-count.ensures.taken.0 c.in_ok-count.ensures.taken.1
