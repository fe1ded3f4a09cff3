use Rattle.ft_types.proofs.Zips.{zero_row, zero_shows}
use Rattle.ft_types.proofs.counts.Counts.zero.Goals as goal

pub invariant_of-result : goal.invariant_of-result
invariant_of-result c = rw c.no_counts.ensures (zero_row c.args.harts c.requires)

pub returns : goal.returns
returns c = rw c.no_counts.ensures (zero_shows c.args.harts c.requires)
