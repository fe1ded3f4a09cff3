-- Packets, and how each is spelled.
use Rattle.std.specs.Prelude.{◌≡◌, ℕ, ◌-◌, ◌%◌, ◌≤◌, ◌==◌, ◌||◌, Bool, if◌then◌else◌, List, [], ◌∷◌, ◌++◌, length, sum}
use Rattle.std.specs.List.{flat_map}
use Rattle.hex.specs.Hex.{encode_lower}
use Rattle.gdb_packets.specs.declared.spelling.TheConstants.{TEXT_LIMIT}

-- '#', '$', '*' and '}' stand in no packet as themselves
abbrev pub is_escaped : ℕ → Bool
is_escaped b = b == 35 || b == 36 || b == 42 || b == 125

-- '}' and the byte without its bit 5, or the byte
abbrev pub escape : ℕ → List ℕ
escape b = if is_escaped b then 125 ∷ (b - 32) ∷ [] else b ∷ []

-- what stands between '$' and '#'
abbrev pub body : List ℕ → List ℕ
body bytes = flat_map escape bytes

-- two digits: the sum of the bytes of a body, modulo 256
abbrev pub sum_text : List ℕ → List ℕ
sum_text bytes = encode_lower (sum bytes % 256 ∷ [])

-- '$', the body, '#' and its sum
abbrev pub spelling : List ℕ → List ℕ
spelling bytes = 36 ∷ body bytes ++ 35 ∷ sum_text (body bytes)

-- the text is the packet that says these bytes
abbrev pub IsPacket : List ℕ → List ℕ → Type 0
IsPacket text bytes = (length text ≤ TEXT_LIMIT) × (text ≡ spelling bytes)
