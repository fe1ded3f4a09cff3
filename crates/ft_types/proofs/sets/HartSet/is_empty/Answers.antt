use Rattle.ft_types.proofs.FlagBits.{none_set, none_in_set}
use Rattle.ft_types.proofs.sets.HartSet.is_empty.Goals as goal

pub returns-clause-value : goal.returns-clause-value
returns-clause-value c = rw (← c.self.view_is) (none_in_set c.self.inside.members c.self.invariant)

pub returns-clause-none : goal.returns-clause-none
returns-clause-none c = rw (← c.self.view_is) (none_set c.self.inside.members c.self.invariant)
