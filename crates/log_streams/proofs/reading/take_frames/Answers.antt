use Rattle.std.proofs.Common.{refl, ◌++◌}
use Rattle.log_streams.proofs.StreamLemmas.{push_fault, feed_faults}
use Rattle.log_streams.proofs.reading.take_frames.Goals as goal

pub returns-in-Err-put_all-clause-fault : goal.returns-in-Err-put_all-clause-fault
returns-in-Err-put_all-clause-fault c =
    rw c.refused.ensures (push_fault c.args.stream c.in-Ok.frames.items c.args.piece.now c.args.feed.now c.push.new.self c.args.store.now c.in-Err-put_all.fault
    c.in-Err-put_all.ensures.fault c.in-Ok.ensures.given)

pub returns-in-Err-clause-fault : goal.returns-in-Err-clause-fault
returns-in-Err-clause-fault c = λ first read given follows takes.
    rw c.stream_fault.ensures (feed_faults c.args.stream first.guest (read ++ c.args.piece.now) given c.push.new.self c.in-Err.fault
    (c.in-Err.ensures.fault read given follows) (λ ne. (c.in-Err.ensures.for_good c.in-Err.fault).1 refl ne) takes.own)
