-- A pair, and whose files a keeper's are.
use Rattle.std.specs.Prelude.{◌≡◌, ℕ, ◌/◌, ◌%◌, ◌<◌, ◌^◌, List, [], ◌∷◌, ◌++◌, codes, decimal}
use Rattle.ft_types.specs.Guests.{GuestParts}
use Rattle.ft_types.specs.Text.{word}
use Rattle.wire.specs.Fields.{spelling}
use Rattle.wire.specs.Seals.{sealed}
use Rattle.wire.specs.declared.pairs.Pair.{Pair}
use Rattle.wire.specs.declared.keeps.Inode.{Inode}
use Rattle.wire.specs.declared.keeps.Keeps.{Keeps}

-- a word of 64 bits: that of its upper half, and that of its lower one
abbrev pub long_word : ℕ → List ℕ
long_word w = word (w / 2 ^ 32) ++ word (w % 2 ^ 32)

abbrev pub IsLongWord : List ℕ → ℕ → Type 0
IsLongWord text w = (w < 2 ^ 64) × (text ≡ long_word w)

-- ---- pairs

-- of whatever quorum
abbrev pub IsPair : Pair → Type 0
IsPair p = p.name < 2 ^ 64

abbrev pub pair_fields : Pair → List (List ℕ)
pair_fields p = decimal p.quorum.keepers ∷ decimal p.quorum.need ∷ long_word p.name ∷ []

-- these fields stand behind the name
abbrev pub HasPair : List (List ℕ) → Pair → Type 0
HasPair fields p = IsPair p × (fields ≡ pair_fields p)

-- pair KEEPERS NEED PAIR S
abbrev pub pair_text : GuestParts → Pair → List ℕ
pair_text guest p = sealed guest (spelling (codes "pair" ∷ pair_fields p))

abbrev pub SaysPair : GuestParts → List ℕ → Pair → Type 0
SaysPair guest text p = IsPair p × (text ≡ pair_text guest p)

-- ---- files

abbrev pub IsInode : Inode → Type 0
IsInode i = (i.number < 2 ^ 64) × (i.born < 2 ^ 64)

abbrev pub inode_fields : Inode → List (List ℕ)
inode_fields i = long_word i.number ∷ long_word i.born ∷ []

-- of one of the pair's keepers
pub record IsKeeps (k : Keeps) : Type 0 where
  pub keeper : k.keeper < k.pair.quorum.keepers
  pub pair : IsPair k.pair
  pub log : IsInode k.log
  pub fences : IsInode k.fences

abbrev pub keeps_fields : Keeps → List (List ℕ)
keeps_fields k = decimal k.keeper ∷ (pair_fields k.pair ++ inode_fields k.log ++ inode_fields k.fences)

-- these fields stand behind the name
abbrev pub HasKeeps : List (List ℕ) → Keeps → Type 0
HasKeeps fields k = IsKeeps k × (fields ≡ keeps_fields k)

-- keeps K KEEPERS NEED PAIR INODE BORN INODE BORN S
abbrev pub keeps_text : GuestParts → Keeps → List ℕ
keeps_text guest k = sealed guest (spelling (codes "keeps" ∷ keeps_fields k))

abbrev pub SaysKeeps : GuestParts → List ℕ → Keeps → Type 0
SaysKeeps guest text k = IsKeeps k × (text ≡ keeps_text guest k)
