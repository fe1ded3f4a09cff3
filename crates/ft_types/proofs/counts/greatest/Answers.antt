use Rattle.std.proofs.Common.{max, rules}
use Rattle.ft_types.proofs.Zips.{zips_more, behind_kept}
use Rattle.ft_types.proofs.counts.greatest.Goals as goal

pub loop-i-preserved : goal.loop-i-preserved
loop-i-preserved c = (
  rw c.max.ensures (zips_more max c.args.row.now c.args.other.now c.loop-i.greatest c.loop-i.i (search rules) (search rules) (search rules) c.loop-i.invariant.0),
  behind_kept c.loop-i.greatest c.args.row.now c.loop-i.i _ c.loop-i.invariant.1,
  search rules,
)
