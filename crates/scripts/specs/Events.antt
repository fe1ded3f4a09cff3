-- A list of events, and its first line at fault.
use Rattle.std.specs.Prelude.{◌≡◌, ℕ, ◌+◌, ◌^◌, ◌<◌, List, [], ◌∷◌, ◌++◌, length, codes, decimal}
use Rattle.std.specs.List.{flat_map, AllByRecursion}
use Rattle.ft_types.specs.Text.{line, word}
use Rattle.ft_types.specs.declared.names.TheConstants.{COUNT_LIMIT}
use Rattle.input_log.specs.declared.Input.{Input}
use Rattle.input_log.specs.declared.Input.TheVariants as input
use Rattle.scripts.specs.Script.{IsHart, IsWaited}
use Rattle.scripts.specs.declared.event.Event.{Event}
use Rattle.scripts.specs.declared.event.Event.TheVariants.{Step, Offer, Seal, Deliver, Join, Acknowledge, Release, Stop, Lose, Grant}
use Rattle.scripts.specs.declared.fault.EventsFault.{EventsFault}
use Rattle.scripts.specs.declared.fault.EventsFault.TheVariants.{BadLine, Memory}

-- ---- what a line says

abbrev pub input_name : Input → List ℕ
input_name input.Timer = codes "timer"
input_name (input.Word w) = codes "word"
input_name (input.Bell source) = []

abbrev pub name_of : Event → List ℕ
name_of (Step hart) = codes "step"
name_of (Offer hart i) = input_name i
name_of Seal = codes "seal"
name_of (Deliver keeper frame) = codes "deliver"
name_of (Join keeper other) = codes "join"
name_of (Acknowledge keeper) = codes "ack"
name_of Release = codes "release"
name_of Stop = codes "stop"
name_of (Lose keeper) = codes "lose"
name_of (Grant term keepers) = codes "grant"

-- the numbers behind the name
abbrev pub numbers_of : Event → List ℕ
numbers_of (Step hart) = hart ∷ []
numbers_of (Offer hart i) = hart ∷ []
numbers_of Seal = []
numbers_of (Deliver keeper frame) = keeper ∷ frame ∷ []
numbers_of (Join keeper other) = keeper ∷ other ∷ []
numbers_of (Acknowledge keeper) = keeper ∷ []
numbers_of Release = []
numbers_of Stop = []
numbers_of (Lose keeper) = keeper ∷ []
numbers_of (Grant term keepers) = term ∷ keepers.items

-- the words behind the numbers
abbrev pub input_words : Input → List ℕ
input_words input.Timer = []
input_words (input.Word w) = w ∷ []
input_words (input.Bell source) = []

abbrev pub words_of : Event → List ℕ
words_of (Offer hart i) = input_words i
words_of event = []

-- numbers, and words, each behind a space
abbrev pub spaced_numbers : List ℕ → List ℕ
spaced_numbers ns = flat_map (λ n. 32 ∷ decimal n) ns

abbrev pub spaced_words : List ℕ → List ℕ
spaced_words ws = flat_map (λ w. 32 ∷ word w) ws

-- the name, and behind it the numbers and the words
abbrev pub event_text : Event → List ℕ
event_text e = name_of e ++ (spaced_numbers (numbers_of e) ++ spaced_words (words_of e))

-- ---- which events there are

abbrev pub AreNumbers : List ℕ → Type 0
AreNumbers ns = AllByRecursion (λ n. n < COUNT_LIMIT) ns

-- what may be said for this number of harts
abbrev pub MayHappen : ℕ → Event → Type 0
MayHappen harts (Step hart) = IsHart harts hart
MayHappen harts (Offer hart i) = IsHart harts hart × IsWaited i
MayHappen harts Seal = Unit {0}
MayHappen harts (Deliver keeper frame) = (keeper < COUNT_LIMIT) × (frame < COUNT_LIMIT)
MayHappen harts (Join keeper other) = (keeper < COUNT_LIMIT) × (other < COUNT_LIMIT)
MayHappen harts (Acknowledge keeper) = keeper < COUNT_LIMIT
MayHappen harts Release = Unit {0}
MayHappen harts Stop = Unit {0}
MayHappen harts (Lose keeper) = keeper < COUNT_LIMIT
MayHappen harts (Grant term keepers) = (term < 2 ^ 32) × AreNumbers keepers.items × (0 < length keepers.items)

abbrev pub MayAllHappen : ℕ → List Event → Type 0
MayAllHappen harts es = AllByRecursion (MayHappen harts) es

-- ---- lists of events

abbrev pub event_line : Event → List ℕ
event_line e = line (event_text e)

abbrev pub events_text : List Event → List ℕ
events_text es = flat_map event_line es

-- the bytes begin with a right line, and rest stands behind it
abbrev pub BeginsWith : ℕ → List ℕ → Event → List ℕ → Type 0
BeginsWith harts bytes e rest = MayHappen harts e × (bytes ≡ event_line e ++ rest)

abbrev pub LacksLine : ℕ → List ℕ → Type 0
LacksLine harts bytes = (e : Event) (rest : List ℕ) → BeginsWith harts bytes e rest → ⊥

-- the bytes begin with right lines, and rest stands behind them
abbrev pub LinesThen : ℕ → List ℕ → List Event → List ℕ → Type 0
LinesThen harts bytes es rest = MayAllHappen harts es × (bytes ≡ events_text es ++ rest)

-- the lines before line k are right, and line k is there and is not
abbrev pub IsFault : ℕ → List ℕ → EventsFault → Type 0
IsFault harts bytes (BadLine k) = (es : List Event) × (rest : List ℕ) × LinesThen harts bytes es rest × (0 < length rest) × LacksLine harts rest ×
    (k ≡ length es + 1)
IsFault harts bytes Memory = Unit {0}

-- ---- one reading

-- the two events are one, wherever a list of keepers lies in memory
abbrev pub SameEvent : Event → Event → Type 0
SameEvent e f = (name_of e ≡ name_of f) × (numbers_of e ≡ numbers_of f) × (words_of e ≡ words_of f)

abbrev pub AreSame : List Event → List Event → Type 0
AreSame [] [] = Unit {0}
AreSame (e ∷ es) (f ∷ fs) = SameEvent e f × AreSame es fs
AreSame es fs = ⊥
