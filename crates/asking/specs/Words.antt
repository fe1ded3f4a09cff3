-- Files of words.
use Rattle.std.specs.Prelude.{◌≡◌, ℕ, ◌+◌, ◌^◌, ◌<◌, List, [], ◌∷◌, ◌++◌, length}
use Rattle.std.specs.List.{flat_map, AllByRecursion}
use Rattle.ft_types.specs.Text.{line, word}
use Rattle.asking.specs.declared.words.WordsFault.{WordsFault}
use Rattle.asking.specs.declared.words.WordsFault.TheVariants.{BadLine, Memory}

abbrev pub AreWords : List ℕ → Type 0
AreWords words = AllByRecursion (λ w. w < 2 ^ 32) words

-- each word is a line
abbrev pub words_text : List ℕ → List ℕ
words_text words = flat_map (λ w. line (word w)) words

-- the bytes begin with the lines of these words, and rest stands behind them
abbrev pub WordsThen : List ℕ → List ℕ → List ℕ → Type 0
WordsThen bytes words rest = AreWords words × (bytes ≡ words_text words ++ rest)

-- the file has these words, and nothing else
abbrev pub IsFileOf : List ℕ → List ℕ → Type 0
IsFileOf words bytes = AreWords words × (bytes ≡ words_text words)

-- the bytes begin with no line of a word
abbrev pub LacksWord : List ℕ → Type 0
LacksWord bytes = (w : ℕ) (rest : List ℕ) → w < 2 ^ 32 → bytes ≡ line (word w) ++ rest → ⊥

-- the lines before line k are words, and line k is there and is none
abbrev pub IsNoFile : List ℕ → WordsFault → Type 0
IsNoFile bytes (BadLine k) = (words : List ℕ) × (rest : List ℕ) × WordsThen bytes words rest × (0 < length rest) × LacksWord rest × (k ≡ length words + 1)
IsNoFile bytes Memory = Unit {0}
