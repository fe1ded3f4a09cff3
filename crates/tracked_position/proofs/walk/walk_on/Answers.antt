use Rattle.std.proofs.Common.{◌<◌, ◌^◌, arith}
use Rattle.closed_cut.proofs.Walking.{no_place}
use Rattle.tracked_position.proofs.walk.walk_on.Goals as goal

pub returns-clause-end : goal.returns-clause-end
returns-clause-end c piece one from =
    let less : c.loop-now.now.place < 2 ^ 32 = no_place c.args.store.now c.args.term c.args.hart c.loop-now.now.place piece c.requires one in
    absurd (omega arith)
