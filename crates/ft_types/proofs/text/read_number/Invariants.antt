use Rattle.ft_types.proofs.Texts.{NumberSoFar}
use Rattle.ft_types.proofs.text.read_number.Given as goal

abbrev pub invariant-loop-byte : goal.invariant-loop-byte
invariant-loop-byte l = NumberSoFar l.text l.byte-index l.value
