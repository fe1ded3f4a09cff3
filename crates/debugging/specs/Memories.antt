-- What packets show of RAM.
use Rattle.std.specs.Prelude.{◌≡◌, ◌⊎◌, ℕ, ◌+◌, ◌<◌, ◌≤◌, ◌^◌, ◌&&◌, ◌==◌, nat_lt, min, if◌then◌else◌, false, List, [], length, slice_index, slice_index_or, codes}
use Rattle.hex.specs.Hex.{encode_lower}
use Rattle.rv32_hart.specs.Access.{in_ram, page_at, offset_at}
use Rattle.debugging.specs.declared.memory.TheConstants.{SHOWN_LIMIT}

-- the byte of RAM at an address
abbrev pub byte_in : List (List ℕ) → ℕ → ℕ
byte_in pages address = slice_index (slice_index_or pages (page_at address) []) (offset_at address)

-- These are the bytes of RAM from the first address on: as many as were wanted, or as one packet shows, or up to where there is none.
pub record ShowsBytes (pages : List (List ℕ)) (first many : ℕ) (bytes : List ℕ) : Type 0 where
  pub each : (i : ℕ) → i < length bytes → slice_index bytes i ≡ byte_in pages (first + i)
  pub few : length bytes ≤ min many SHOWN_LIMIT
  pub all : (length bytes ≡ min many SHOWN_LIMIT) ⊎ (in_ram (length pages) (first + length bytes) ≡ false) ⊎ (2 ^ 32 ≤ first + length bytes)

-- their digits, or `E02` where some were wanted and there are none
abbrev pub memory_answer : ℕ → List ℕ → List ℕ
memory_answer many bytes = if (length bytes == 0) && nat_lt 0 many then codes "E02" else encode_lower bytes
