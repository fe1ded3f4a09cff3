-- The parts of a step's line.
use Rattle.std.specs.Prelude.{ℕ, List, [], ◌++◌, Option, Some, None, codes, decimal}
use Rattle.ft_types.specs.Text.{word}
use Rattle.input_log.specs.declared.Input.{Input}
use Rattle.input_log.specs.declared.Input.TheVariants.{Timer, Word, Bell}

-- a name and a word
abbrev pub named : List ℕ → ℕ → List ℕ
named name w = codes " " ++ name ++ codes " " ++ word w

-- a name and a number
abbrev pub numbered : List ℕ → ℕ → List ℕ
numbered name n = codes " " ++ name ++ codes " " ++ decimal n

-- nothing where there is no word
abbrev pub some_named : List ℕ → Option ℕ → List ℕ
some_named name None = []
some_named name (Some w) = named name w

-- an address, and the number that the bytes there are
abbrev pub bytes_text : List ℕ → Option (ℕ × ℕ) → List ℕ
bytes_text name None = []
bytes_text name (Some bytes) = named name bytes.0 ++ codes " " ++ word bytes.1

-- what comes to a hart
abbrev pub input_text : Input → List ℕ
input_text Timer = codes " timer"
input_text (Word w) = named (codes "word") w
input_text (Bell source) = numbered (codes "bell") source
