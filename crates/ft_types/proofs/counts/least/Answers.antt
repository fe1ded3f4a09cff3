use Rattle.std.proofs.Common.{min, rules}
use Rattle.ft_types.proofs.Zips.{zips_more, behind_kept}
use Rattle.ft_types.proofs.counts.least.Goals as goal

pub loop-i-preserved : goal.loop-i-preserved
loop-i-preserved c = (
  rw c.min.ensures (zips_more min c.args.row.now c.args.other.now c.loop-i.least c.loop-i.i (search rules) (search rules) (search rules) c.loop-i.invariant.0),
  behind_kept c.loop-i.least c.args.row.now c.loop-i.i _ c.loop-i.invariant.1,
  search rules,
)
