use Rattle.std.proofs.Common.{◌≡◌, length, take, bit_or}
use Rattle.ft_types.specs.Counts.{zipped}
use Rattle.lease_rounds.proofs.page_words.ored.Given as goal

abbrev pub invariant-loop-place : goal.invariant-loop-place
invariant-loop-place l = (take l.place l.words ≡ zipped bit_or (take l.place l.these) (take l.place l.those)) × (length l.words ≡ 4)
