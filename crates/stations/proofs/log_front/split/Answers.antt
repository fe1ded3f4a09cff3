use Rattle.std.proofs.Common.{sym}
use Rattle.stations.proofs.Fronts.{behind}
use Rattle.stations.proofs.log_front.split.Goals as goal

pub returns : goal.returns
returns c =
    behind c.args.bytes.now c.in_ok-frames.frames.items c.given_by.new.feed c.fault.result (sym c.fault.ensures) c.in_ok-frames.ensures
