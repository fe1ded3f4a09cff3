use Rattle.std.proofs.Common.{arith}
use Rattle.ft_types.proofs.Zips.{row_grows, takes_more}
use Rattle.ft_types.proofs.counts.Counts.from_slice.Goals as goal

pub loop-i-preserved : goal.loop-i-preserved
loop-i-preserved c = (
  row_grows c.loop-i.row c.loop-i.i _ (omega arith) c.if-count-ge-COUNT_LIMIT.false c.loop-i.invariant.0,
  takes_more c.loop-i.row c.args.counts.now c.loop-i.i (omega (arith, c.loop-i.invariant.0.words)) c.loop-i-test.true c.loop-i.invariant.1,
)
