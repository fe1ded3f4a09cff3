-- What waits for a hart.
use Rattle.std.specs.Prelude.{◌≡◌, ◌+◌, ℕ, List, [], ◌∷◌, ◌++◌, Option, None, Some, false, if◌then◌else◌, nat_lt, length, map}
use Rattle.std.specs.List.{AllByRecursion}
use Rattle.input_log.specs.declared.Input.{Input}
use Rattle.input_log.specs.declared.Input.TheVariants.{Word}
use Rattle.input_log.specs.Inputs.{is_bell}
use Rattle.requests.specs.declared.queue.TheConstants.{QUEUE_ROOM}
use Rattle.requests.specs.declared.queue.Came.{Came}
use Rattle.requests.specs.declared.queue.Came.TheVariants.{Taken, Busy}
use Rattle.requests.specs.Numbered.{Asked, Words, Asks, after, came_of}

pub record QueueView : Type 0 where
  pub handed : ℕ  -- how many words the machine was handed, since boot
  pub waiting : List Input  -- what came and was not handed on, the first at the front

-- the words among inputs
abbrev pub words_in : List Input → List ℕ
words_in [] = []
words_in (Word w ∷ inputs) = w ∷ words_in inputs
words_in (input ∷ inputs) = words_in inputs

-- how many words came in all
abbrev pub came : QueueView → ℕ
came q = q.handed + length (words_in q.waiting)

-- what becomes of what would be taken, or not, where so many wait: it is taken where there is room
abbrev pub at_room : ℕ → Came → Came
at_room waiting Taken = if nat_lt waiting QUEUE_ROOM then Taken else Busy
at_room waiting other = other

-- what becomes of a word with this number, or with none
abbrev pub comes_of : QueueView → Option ℕ → Came
comes_of q number = at_room (length q.waiting) (came_of (came q) number)

-- none of them is a bell, which comes from a hart
abbrev pub AreNoBells : List Input → Type 0
AreNoBells inputs = AllByRecursion (λ input. is_bell input ≡ false) inputs

-- an input more waits
abbrev pub with_input : QueueView → Input → QueueView
with_input q input = record q { waiting = q.waiting ++ input ∷ [] }

abbrev pub front : List Input → Option Input
front [] = None
front (input ∷ inputs) = Some input

-- the front waits no longer
abbrev pub handed_on : ℕ → List Input → QueueView
handed_on handed [] = record { handed = handed; waiting = [] }
handed_on handed (Word w ∷ inputs) = record { handed = handed + 1; waiting = inputs }
handed_on handed (input ∷ inputs) = record { handed = handed; waiting = inputs }

-- the queue has the words that wait, behind as many as the machine was handed
pub record IsQueueOf (words : Words) (q : QueueView) : Type 0 where
  pub handed : q.handed ≡ length words.handed
  pub waiting : words_in q.waiting ≡ map (λ asked. asked.word) words.waiting

-- the hart's words once this became of a word that was asked for: where there was no room it is as if nobody had asked
abbrev pub after_asked : Words → Asked → Came → Words
after_asked words asked Busy = words
after_asked words asked came = after words (Asks asked)
