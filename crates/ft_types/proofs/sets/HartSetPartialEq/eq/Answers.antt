use Rattle.ft_types.specs.machinery.Flags.{number_of-flags_of}
use Rattle.ft_types.proofs.sets.HartSetPartialEq.eq.Goals as goal

pub returns : goal.returns
returns c =
    rw (
      ← c.t1-1.view_is,
      ← c.t2-1.view_is,
      number_of-flags_of 32 c.t1-1.inside.members c.t1-1.invariant,
      number_of-flags_of 32 c.t2-1.inside.members c.t2-1.invariant,
    ) c.eq.ensures
