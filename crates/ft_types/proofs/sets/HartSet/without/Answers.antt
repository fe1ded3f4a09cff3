use Rattle.ft_types.proofs.FlagBits.{flag_removed}
use Rattle.ft_types.proofs.sets.HartSet.without.Goals as goal

pub returns : goal.returns
returns c = rw (← c.self.view_is) (flag_removed c.self.inside.members c.args.hart c.bit_of.result c.self.invariant c.bit_of.ensures)
