use Rattle.std.proofs.Common.{arith}
use Rattle.ft_types.proofs.FlagBits.{bit_of_hart}
use Rattle.ft_types.proofs.sets.bit_of.Goals as goal

pub returns : goal.returns
returns c = bit_of_hart c.number.ensures.value c.from.ensures (omega (arith, c.number.ensures.value, c.number.ensures.below)) c.wrapping_shl.ensures
