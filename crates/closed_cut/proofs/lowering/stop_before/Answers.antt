use Rattle.std.proofs.Common.{◌<◌, arith}
use Rattle.ft_types.specs.Counts.{count_at}
use Rattle.closed_cut.proofs.Lowerings.{lowered_by}
use Rattle.closed_cut.proofs.lowering.stop_before.Goals as goal

pub returns-then-edge-get-clause-lowered : goal.returns-then-edge-get-clause-lowered
returns-then-edge-get-clause-lowered c edges has short =
    let step : c.args.edge.now.at < count_at c.args.cut.now c.args.edge.now.hart = omega arith in
    rw c.set.ensures (lowered_by edges c.args.cut.now c.args.edge.now has c.requires.hart step short)
