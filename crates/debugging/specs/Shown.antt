-- What packets show of a hart.
use Rattle.std.specs.Prelude.{ℕ, ◌-◌, ◌==◌, nat_lt, if◌then◌else◌, List, [], ◌∷◌, ◌++◌, drop, slice_index, Option, None, Some, codes}
use Rattle.std.specs.List.{flat_map}
use Rattle.std.specs.Int.{to_le_bytes, w32}
use Rattle.hex.specs.Hex.{encode_lower}
use Rattle.rv32_hart.specs.Hart.{Hart}
use Rattle.rv32_hart.specs.Csrs.{read_csr}

-- two digits for each byte, the lowest byte first
abbrev pub word_digits : ℕ → List ℕ
word_digits w = encode_lower (to_le_bytes w32 w)

-- x0 to x31
abbrev pub words_of : Hart → List ℕ
words_of h = 0 ∷ drop 1 h.registers

-- x0 to x31 and pc
abbrev pub registers_text : Hart → List ℕ
registers_text h = flat_map word_digits (words_of h ++ h.pc ∷ [])

-- the register with gdb's number: x0 to x31 from 0 on, pc, and the CSRs by their addresses from 65 on
abbrev pub register_at : Hart → ℕ → Option ℕ
register_at h n =
    if nat_lt n 32 then Some (slice_index (words_of h) n)
    else if n == 32 then Some h.pc
    else if nat_lt n 65 then None
    else read_csr h (n - 65)

-- what was wanted, or `E02` where there is none
abbrev pub or_wrong : Option (List ℕ) → List ℕ
or_wrong None = codes "E02"
or_wrong (Some text) = text
