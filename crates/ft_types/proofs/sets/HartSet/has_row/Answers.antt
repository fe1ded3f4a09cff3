use Rattle.ft_types.specs.machinery.Flags.{length-flags_of}
use Rattle.ft_types.proofs.sets.HartSet.has_row.Goals as goal

pub returns : goal.returns
returns c = rw (← c.self.view_is) (length-flags_of 32 c.self.inside.members)
