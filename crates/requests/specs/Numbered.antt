-- Words that are asked for by their numbers: what of them is taken, whatever is asked, in whatever order, and whoever goes on.
use Rattle.std.specs.Prelude.{◌≡◌, ◌+◌, ◌≤◌, ℕ, zero, suc, List, [], ◌∷◌, ◌++◌, Option, None, Some, IfSome, if◌then◌else◌, nat_lt, length, take}
use Rattle.std.specs.List.{AllByRecursion}
use Rattle.requests.specs.declared.queue.TheConstants.{WORD_LIMIT}
use Rattle.requests.specs.declared.queue.Came.{Came}
use Rattle.requests.specs.declared.queue.Came.TheVariants.{Taken, Repeat, Ahead, Full}

-- a word that a client asks for, and its number among the hart's words where that is told
pub record Asked : Type 0 where
  pub word : ℕ
  pub number : Option ℕ

-- what becomes of a word that is the next one, where so many came before it
abbrev pub room_for : ℕ → Came
room_for came = if nat_lt came WORD_LIMIT then Taken else Full

-- what becomes of a word with this number, or with none, where so many came before it
abbrev pub came_of : ℕ → Option ℕ → Came
came_of came None = room_for came
came_of came (Some n) = if nat_lt n came then Repeat else (if nat_lt came n then Ahead else room_for came)

-- the words of one hart, in their order
pub record Words : Type 0 where
  pub handed : List Asked  -- those that the machine was handed, since boot
  pub waiting : List Asked  -- those that came behind them

abbrev pub taken : Words → List Asked
taken words = words.handed ++ words.waiting

-- no word came
abbrev pub none : Words
none = record { handed = []; waiting = [] }

-- what happens to the words of one hart
pub data Happening : Type 0 where
  Asks : Asked → Happening  -- a client asks for a word
  HandsOn : Happening  -- the machine is handed the first of those that wait
  GoesOnAt : (given : ℕ) → Happening  -- another primary goes on at a machine that gave the hart so many words, and nothing waits there

abbrev pub with_asked : Words → Asked → Came → Words
with_asked words asked Taken = record words { waiting = words.waiting ++ asked ∷ [] }
with_asked words asked came = words

abbrev pub first_handed : List Asked → List Asked → Words
first_handed handed [] = record { handed = handed; waiting = [] }
first_handed handed (asked ∷ waiting) = record { handed = handed ++ asked ∷ []; waiting = waiting }

abbrev pub after : Words → Happening → Words
after words (Asks asked) = with_asked words asked (came_of (length (taken words)) asked.number)
after words HandsOn = first_handed words.handed words.waiting
after words (GoesOnAt given) = record { handed = take given words.handed; waiting = [] }

abbrev pub all_after : Words → List Happening → Words
all_after words [] = words
all_after words (next ∷ happenings) = all_after (after words next) happenings

-- ---- what holds of them

-- P holds of each of them at its place; the first stands at this one
abbrev pub EachAt : (ℕ → Asked → Type 0) → ℕ → List Asked → Type 0
EachAt P place [] = Unit {0}
EachAt P place (asked ∷ rest) = P place asked × EachAt P (suc place) rest

-- a word that has a number stands at the place of its number
abbrev pub IsInPlace : ℕ → Asked → Type 0
IsInPlace place asked = IfSome asked.number (λ n. n ≡ place)

-- Whatever happens, each word with a number stands at its place: it is taken once, behind all before it.
abbrev pub AllInPlace : Type 0
AllInPlace = (all : List Happening) → EachAt IsInPlace 0 (taken (all_after none all))

-- who asks for a word tells its number, and has one word for each number
abbrev pub AsksByNumber : (ℕ → ℕ) → Happening → Type 0
AsksByNumber words (Asks asked) = (n : ℕ) × (asked ≡ record { word = words n; number = Some n })
AsksByNumber words HandsOn = Unit {0}
AsksByNumber words (GoesOnAt given) = Unit {0}

-- it is the word of its place
abbrev pub IsWordOf : (ℕ → ℕ) → ℕ → Asked → Type 0
IsWordOf words place asked = asked.word ≡ words place

-- The words that are taken are the first of the clients' words, each once and in order: however often they are asked for, in whatever order, and over
-- however many primaries.
abbrev pub ExactlyOnce : Type 0
ExactlyOnce =
    (words : ℕ → ℕ) (all : List Happening) → AllByRecursion (AsksByNumber words) all → EachAt (IsWordOf words) 0 (taken (all_after none all))

-- ---- words that are asked for once more

-- the client asks for its words of so many numbers, from this one on, in their order
abbrev pub asks_from : (ℕ → ℕ) → ℕ → ℕ → List Happening
asks_from words number zero = []
asks_from words number (suc many) = Asks (record { word = words number; number = Some number }) ∷ asks_from words (suc number) many

-- Where no word before the first of them is missing, all of them came then.
abbrev pub NoneIsMissing : Type 0
NoneIsMissing =
    (words : ℕ → ℕ) (had : Words) (number many : ℕ) → number ≤ length (taken had) → number + many ≤ WORD_LIMIT →
    number + many ≤ length (taken (all_after had (asks_from words number many)))
