-- A script, and its first line at fault.
use Rattle.std.specs.Prelude.{◌≡◌, ℕ, ◌+◌, ◌^◌, ◌<◌, List, [], ◌∷◌, ◌++◌, length, codes, decimal}
use Rattle.std.specs.List.{flat_map, AllByRecursion}
use Rattle.ft_types.specs.Text.{line, word}
use Rattle.ft_types.specs.declared.names.TheConstants.{COUNT_LIMIT, HART_LIMIT}
use Rattle.input_log.specs.declared.Input.{Input}
use Rattle.input_log.specs.declared.Input.TheVariants as input
use Rattle.scripts.specs.declared.fault.ScriptFault.{ScriptFault}
use Rattle.scripts.specs.declared.fault.ScriptFault.TheVariants.{BadLine, Memory}
use Rattle.scripts.specs.declared.script.Offered.{Offered}

-- the byte stands nowhere in the text
abbrev pub HasNone : ℕ → List ℕ → Type 0
HasNone byte text = AllByRecursion (λ b. b ≡ byte → ⊥) text

-- an input that waits for a count: no bell
abbrev pub IsWaited : Input → Type 0
IsWaited input.Timer = Unit {0}
IsWaited (input.Word w) = w < 2 ^ 32
IsWaited (input.Bell source) = ⊥

-- timer, or word V
abbrev pub input_text : Input → List ℕ
input_text input.Timer = codes "timer"
input_text (input.Word w) = codes "word " ++ word w
input_text (input.Bell source) = []

-- a hart below this number of harts, and below HART_LIMIT
abbrev pub IsHart : ℕ → ℕ → Type 0
IsHart harts hart = (hart < harts) × (hart < HART_LIMIT)

-- what a line may offer, for this number of harts
pub record MayBeOffered (harts : ℕ) (o : Offered) : Type 0 where
  pub hart : IsHart harts o.hart
  pub count : o.not_before < COUNT_LIMIT
  pub input : IsWaited o.input

abbrev pub AreOffered : ℕ → List Offered → Type 0
AreOffered harts os = AllByRecursion (MayBeOffered harts) os

-- H N, and the input
abbrev pub offered_text : Offered → List ℕ
offered_text o = decimal o.hart ++ 32 ∷ (decimal o.not_before ++ 32 ∷ input_text o.input)

abbrev pub offered_line : Offered → List ℕ
offered_line o = line (offered_text o)

-- the text of a script
abbrev pub script_text : List Offered → List ℕ
script_text os = flat_map offered_line os

-- the bytes begin with a right line, and rest stands behind it
abbrev pub BeginsWith : ℕ → List ℕ → Offered → List ℕ → Type 0
BeginsWith harts bytes o rest = MayBeOffered harts o × (bytes ≡ offered_line o ++ rest)

abbrev pub LacksLine : ℕ → List ℕ → Type 0
LacksLine harts bytes = (o : Offered) (rest : List ℕ) → BeginsWith harts bytes o rest → ⊥

-- the bytes begin with right lines, and rest stands behind them
abbrev pub LinesThen : ℕ → List ℕ → List Offered → List ℕ → Type 0
LinesThen harts bytes os rest = AreOffered harts os × (bytes ≡ script_text os ++ rest)

-- the lines before line k are right, and line k is there and is not
abbrev pub IsFault : ℕ → List ℕ → ScriptFault → Type 0
IsFault harts bytes (BadLine k) = (os : List Offered) × (rest : List ℕ) × LinesThen harts bytes os rest × (0 < length rest) × LacksLine harts rest ×
    (k ≡ length os + 1)
IsFault harts bytes Memory = Unit {0}
