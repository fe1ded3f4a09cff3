use Rattle.std.proofs.Common.{rules}
use Rattle.ft_types.proofs.Zips.{zips_more}
use Rattle.lease_rounds.specs.machinery.Flags.{left_of}
use Rattle.lease_rounds.proofs.page_words.cleared.Goals as goal

pub loop-place-preserved : goal.loop-place-preserved
loop-place-preserved c = (
  zips_more left_of c.args.these c.args.those c.loop-place.words c.loop-place.place (search rules) (search rules) (search rules) c.loop-place.invariant.0,
  search rules,
)
