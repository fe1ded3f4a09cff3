use Rattle.std.proofs.Common.{◌≡◌, ◌∷◌, take}
use Rattle.std.specs.List.{flat_map}
use Rattle.debugging.specs.Shown.{word_digits}
use Rattle.debugging.proofs.registers.registers_text.Given as goal

abbrev pub invariant-loop-word : goal.invariant-loop-word
invariant-loop-word l = l.text.items ≡ flat_map word_digits (0 ∷ take l.word-index l.words)
