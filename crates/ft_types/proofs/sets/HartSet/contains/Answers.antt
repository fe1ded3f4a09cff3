use Rattle.ft_types.proofs.FlagBits.{hart_tested}
use Rattle.ft_types.proofs.sets.HartSet.contains.Goals as goal

pub returns : goal.returns
returns c = rw (← c.self.view_is) (hart_tested c.self.inside.members c.args.hart c.bit_of.result c.bit_of.ensures)
