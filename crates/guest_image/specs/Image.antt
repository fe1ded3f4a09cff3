-- An image file, and its first fault.
use Rattle.std.specs.Prelude.{◌≡◌, ℕ, ◌+◌, ◌*◌, ◌^◌, ◌<◌, ◌≤◌, ◌⊎◌, List, ◌++◌, length, codes, decimal}
use Rattle.std.specs.List.{flat_map, AllByRecursion}
use Rattle.ft_types.specs.Text.{line, word}
use Rattle.sha2.specs.Sha256.{sha256}
use Rattle.ft_types.specs.Guests.{GuestParts}
use Rattle.ft_types.specs.declared.names.TheConstants.{HART_LIMIT, PAGE_LIMIT}
use Rattle.guest_image.specs.declared.fault.ImageFault.{ImageFault}
use Rattle.guest_image.specs.declared.fault.ImageFault.TheVariants.{BadLine, TooLarge, NoHarts, Memory}

-- what an image says
pub record ImageContents : Type 0 where
  pub harts : ℕ
  pub pages : ℕ
  pub words : List ℕ

abbrev pub harts_name : List ℕ
harts_name = codes "harts "

abbrev pub pages_name : List ℕ
pages_name = codes "pages "

-- a line of a name and a number
abbrev pub setting : List ℕ → ℕ → List ℕ
setting name n = line (name ++ decimal n)

abbrev pub word_line : ℕ → List ℕ
word_line w = line (word w)

abbrev pub word_lines : List ℕ → List ℕ
word_lines ws = flat_map word_line ws

-- the text of an image
abbrev pub image_text : ImageContents → List ℕ
image_text i = setting harts_name i.harts ++ (setting pages_name i.pages ++ word_lines i.words)

abbrev pub AreWords : List ℕ → Type 0
AreWords ws = AllByRecursion (λ w. w < 2 ^ 32) ws

-- SHA-256 of the file's bytes (FIPS 180-4), and the number of harts
abbrev pub guest_of : ImageContents → GuestParts
guest_of i = record { digest = sha256 (image_text i); harts = i.harts }

-- what an image file may say
pub record Fits (i : ImageContents) : Type 0 where
  pub some_harts : 0 < i.harts
  pub harts : i.harts ≤ HART_LIMIT
  pub some_pages : 0 < i.pages
  pub pages : i.pages ≤ PAGE_LIMIT
  pub words : AreWords i.words
  pub room : length i.words ≤ i.pages * 1024

-- the bytes begin with a line of this name and the number n, which isn't 0, and rest stands behind it
abbrev pub Sets : List ℕ → List ℕ → ℕ → List ℕ → Type 0
Sets bytes name n rest = (0 < n) × (n < 10 ^ 15) × (bytes ≡ setting name n ++ rest)

abbrev pub LacksSetting : List ℕ → List ℕ → Type 0
LacksSetting bytes name = (n : ℕ) (rest : List ℕ) → Sets bytes name n rest → ⊥

-- the bytes begin with a line that is the word w
abbrev pub StartsWithWord : List ℕ → ℕ → List ℕ → Type 0
StartsWithWord bytes w rest = (w < 2 ^ 32) × (bytes ≡ word_line w ++ rest)

abbrev pub LacksWord : List ℕ → Type 0
LacksWord bytes = (w : ℕ) (rest : List ℕ) → StartsWithWord bytes w rest → ⊥

-- the bytes begin with lines that are these words, which have room, and rest stands behind them
abbrev pub WordsThen : ℕ → List ℕ → List ℕ → List ℕ → Type 0
WordsThen pages bytes words rest = AreWords words × (length words ≤ pages * 1024) × (bytes ≡ word_lines words ++ rest)

-- line 1 is right, and rest stands behind it
abbrev pub AfterHarts : List ℕ → List ℕ → Type 0
AfterHarts bytes rest = (n : ℕ) × (n ≤ HART_LIMIT) × Sets bytes harts_name n rest

-- lines 1 and 2 are right, and rest stands behind them
abbrev pub AfterPages : List ℕ → ℕ → List ℕ → Type 0
AfterPages bytes pages rest = (behind : List ℕ) × AfterHarts bytes behind × (pages ≤ PAGE_LIMIT) × Sets behind pages_name pages rest

-- the fault of the lines from line 3 on, the first one from the left
abbrev pub IsWordFault : ℕ → List ℕ → ImageFault → Type 0
IsWordFault pages bytes (BadLine k) = (words : List ℕ) × (rest : List ℕ) × WordsThen pages bytes words rest × (0 < length rest) × LacksWord rest ×
    (k ≡ length words + 3)
IsWordFault pages bytes TooLarge = (words : List ℕ) × (rest : List ℕ) × (w : ℕ) × (behind : List ℕ) × WordsThen pages bytes words rest ×
    (length words ≡ pages * 1024) × StartsWithWord rest w behind
IsWordFault pages bytes NoHarts = ⊥
IsWordFault pages bytes Memory = Unit {0}

-- line 2 is at fault
abbrev pub IsPagesFault : List ℕ → ImageFault → Type 0
IsPagesFault bytes (BadLine k) = (k ≡ 2) × LacksSetting bytes pages_name
IsPagesFault bytes TooLarge = (n : ℕ) × (rest : List ℕ) × (PAGE_LIMIT < n) × Sets bytes pages_name n rest
IsPagesFault bytes NoHarts = ⊥
IsPagesFault bytes Memory = ⊥

-- line 1 is at fault
abbrev pub IsHartsFault : List ℕ → ImageFault → Type 0
IsHartsFault bytes (BadLine k) = ⊥
IsHartsFault bytes TooLarge = (n : ℕ) × (rest : List ℕ) × (HART_LIMIT < n) × Sets bytes harts_name n rest
IsHartsFault bytes NoHarts = LacksSetting bytes harts_name
IsHartsFault bytes Memory = ⊥

-- the lines before the first line at fault are right, and that line has this fault
abbrev pub IsFault : List ℕ → ImageFault → Type 0
IsFault bytes e =
    IsHartsFault bytes e
    ⊎ (((behind : List ℕ) × AfterHarts bytes behind × IsPagesFault behind e)
    ⊎ ((pages : ℕ) × (behind : List ℕ) × AfterPages bytes pages behind × IsWordFault pages behind e))
