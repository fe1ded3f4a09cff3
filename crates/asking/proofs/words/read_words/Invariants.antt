use Rattle.std.proofs.Common.{length}
use Rattle.asking.specs.Words.{WordsThen}
use Rattle.asking.proofs.words.read_words.Given as goal

abbrev pub invariant-loop-rest : goal.invariant-loop-rest
invariant-loop-rest l = WordsThen l.bytes l.words.items l.rest

abbrev pub decreases-loop-rest : goal.decreases-loop-rest
decreases-loop-rest l = length l.rest
