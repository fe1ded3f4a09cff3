-- The pending interrupts, input by input: private words.
use Rattle.std.specs.Prelude.{ℕ, ◌^◌, List, [], ◌∷◌, bit_or}
use Rattle.input_log.specs.declared.Input.{Input}
use Rattle.input_log.specs.declared.Input.TheVariants.{Timer, Word, Bell}

abbrev pub bit_of : Input → ℕ
bit_of Timer = 2 ^ 7
bit_of (Word w) = 2 ^ 11
bit_of (Bell source) = 2 ^ 3

-- once these inputs are received
abbrev pub mip_after : List Input → ℕ → ℕ
mip_after [] mip = mip
mip_after (i ∷ rest) mip = mip_after rest (bit_or mip (bit_of i))
