use Rattle.std.proofs.Common.{w32}
use Rattle.ft_types.proofs.FlagBits.{no_flag}
use Rattle.ft_types.proofs.sets.HartSet.new.Goals as goal

pub returns : goal.returns
returns c = no_flag w32
