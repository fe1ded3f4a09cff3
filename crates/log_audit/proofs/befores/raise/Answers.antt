use Rattle.std.proofs.Common.{max, rules}
use Rattle.ft_types.proofs.Zips.{zips_more}
use Rattle.log_audit.proofs.befores.raise.Goals as goal

pub loop-hart-preserved : goal.loop-hart-preserved
loop-hart-preserved c = (
  rw c.max.ensures (zips_more max c.args.row.now c.args.other.now c.loop-hart.row c.loop-hart.hart (search rules) (search rules) (search rules)
      c.loop-hart.invariant.0),
  search rules,
)
