use Rattle.std.proofs.Common.{◌≡◌, length, take}
use Rattle.ft_types.specs.Counts.{zipped}
use Rattle.lease_rounds.specs.machinery.Flags.{left_of}
use Rattle.lease_rounds.proofs.page_words.cleared.Given as goal

abbrev pub invariant-loop-place : goal.invariant-loop-place
invariant-loop-place l = (take l.place l.words ≡ zipped left_of (take l.place l.these) (take l.place l.those)) × (length l.words ≡ 4)
