use Rattle.ft_types.proofs.Texts.{WordSoFar}
use Rattle.ft_types.proofs.text.read_word.Given as goal

abbrev pub invariant-loop-byte : goal.invariant-loop-byte
invariant-loop-byte l = WordSoFar l.text l.byte-index l.value
