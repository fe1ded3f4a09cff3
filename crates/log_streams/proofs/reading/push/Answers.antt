use Rattle.std.proofs.Common.{sym, ◌∙◌}
use Rattle.log_streams.proofs.StreamLemmas.{fault_behind}
use Rattle.log_streams.proofs.reading.push.Goals as goal

pub returns-in-Some-clause-fault : goal.returns-in-Some-clause-fault
returns-in-Some-clause-fault c =
    rw c.stream_fault.ensures (fault_behind c.args.stream c.args.feed.now c.take_frames.new.feed c.args.store.now c.take_frames.new.store c.args.piece.now
    c.in-Some.fault c.in-Ok.ensures.ok (sym c.fault.ensures ∙ c.in-Some.is))
