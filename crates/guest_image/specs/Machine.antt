-- A machine, what each one keeps, and how one starts.
use Rattle.std.specs.Prelude.{◌≡◌, ℕ, zero, suc, ◌+◌, ◌-◌, ◌*◌, ◌<◌, ◌≤◌, List, [], ◌∷◌, ◌++◌, length, take, drop, map, replicate, slice_get, slice_set, Some}
use Rattle.std.specs.Int.{to_le_bytes, from_le_bytes, w32}
use Rattle.std.specs.List.{flat_map, range_with_len, AllByRecursion}
use Rattle.ft_types.specs.declared.names.TheConstants.{HART_LIMIT, PAGE_LIMIT}
use Rattle.interleaving.specs.Stored.{Store}
use Rattle.guest_image.specs.Image.{ImageContents}
use Rattle.rv32_hart.specs.Hart.{Hart, boot_hart}

-- the harts, and the bytes of each page of RAM
abbrev pub MachineState : Type 0
MachineState = Store Hart (List ℕ)

-- each hart has its place, counted from `place` on, as its number, and knows how many harts there are
abbrev pub AreInPlace : ℕ → ℕ → List Hart → Type 0
AreInPlace harts place [] = Unit {0}
AreInPlace harts place (h ∷ rest) = (h.number ≡ place) × (h.harts ≡ harts) × AreInPlace harts (place + 1) rest

-- what every machine keeps
pub record IsMachine (m : MachineState) : Type 0 where
  pub some_harts : 0 < length m.harts
  pub harts : length m.harts ≤ HART_LIMIT
  pub places : AreInPlace (length m.harts) 0 m.harts
  pub some_pages : 0 < length m.pages
  pub pages : length m.pages ≤ PAGE_LIMIT
  pub bytes : AllByRecursion (λ page. length page ≡ 4096) m.pages

-- the machine with a hart in this place
abbrev pub with_hart : MachineState → ℕ → Hart → MachineState
with_hart m place h = record m { harts = slice_set m.harts place h }

-- the second hart put out what the first did, and then more
abbrev pub HasPutOutMore : Hart → Hart → Type 0
HasPutOutMore h g = (later : List (ℕ × ℕ)) × (g.outputs ≡ h.outputs ++ later)

-- the second hart is what steps made of the first: it put out more, and is the same where it took none
pub record HasGoneOn (h g : Hart) : Type 0 where
  pub outputs : HasPutOutMore h g
  pub count : h.count ≤ g.count
  pub same : g.count ≡ h.count → g ≡ h

-- so is each of the second harts, of the first with its place
abbrev pub HaveGoneOn : List Hart → List Hart → Type 0
HaveGoneOn before after = (hart : ℕ) (h g : Hart) → slice_get before hart ≡ Some h → slice_get after hart ≡ Some g → HasGoneOn h g

-- a word in memory, its lowest byte first
abbrev pub word_bytes : ℕ → List ℕ
word_bytes w = to_le_bytes w32 w

-- the words of a page, the lowest byte of each first
abbrev pub words_of : List ℕ → List ℕ
words_of [] = []
words_of (a ∷ []) = []
words_of (a ∷ b ∷ []) = []
words_of (a ∷ b ∷ c ∷ []) = []
words_of (a ∷ b ∷ c ∷ d ∷ rest) = from_le_bytes w32 (a ∷ b ∷ c ∷ d ∷ []) ∷ words_of rest

-- the words of all pages, from the first address of RAM upwards
abbrev pub ram_words : List (List ℕ) → List ℕ
ram_words pages = flat_map words_of pages

-- a page that begins with these words and goes on with zeros
unfoldable pub page_with : List ℕ → List ℕ
page_with ws = flat_map word_bytes ws ++ replicate (4096 - 4 * length ws) 0

-- so many pages, which begin with these words and go on with zeros
unfoldable pub pages_with : ℕ → List ℕ → List (List ℕ)
pages_with zero ws = []
pages_with (suc n) ws = page_with (take 1024 ws) ∷ pages_with n (drop 1024 ws)

abbrev pub boot_harts : ℕ → List Hart
boot_harts n = map (boot_hart n) (range_with_len 0 n)

-- the machine of an image before its first step
abbrev pub boot_machine : ImageContents → MachineState
boot_machine i = record { harts = boot_harts i.harts; pages = pages_with i.pages i.words }
