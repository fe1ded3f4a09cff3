-- What a client asks, and what it has heard.
use Rattle.std.specs.Prelude.{◌+◌, ◌==◌, ◌&&◌, ℕ, suc, List, [], ◌∷◌, Option, None, Some, if◌then◌else◌, nat_lt, length, take, slice_index, slice_index_or, slice_set}
use Rattle.ft_types.specs.declared.output.Output.{Output}
use Rattle.wire.specs.declared.requests.Request.{Request}
use Rattle.wire.specs.declared.requests.Request.TheVariants.{Word, From}
use Rattle.requests.specs.declared.asker.Heard.{Heard}
use Rattle.requests.specs.declared.asker.Heard.TheVariants.{New, Known, Contradiction, Foreign}

pub record AskerView : Type 0 where
  pub hart : ℕ
  pub words : List ℕ  -- all that are to be asked for, each at its number
  pub answers : List (Option ℕ)  -- what was heard of each of them
  pub sent : ℕ  -- how many were asked for
  pub window : ℕ  -- how many may be asked for from the first one on that has no answer

-- what was heard of the word of this number
abbrev pub had : AskerView → ℕ → Option ℕ
had a number = slice_index_or a.answers number None

-- the number of the first word that has no answer
abbrev pub first_open : List (Option ℕ) → ℕ
first_open [] = 0
first_open (None ∷ answers) = 0
first_open (Some word ∷ answers) = suc (first_open answers)

-- ---- hearing

-- what a word is to a client that had this one before, or none
abbrev pub told : Option ℕ → ℕ → Heard
told None word = New
told (Some before) word = if before == word then Known else Contradiction

-- what an output is to a client: one of another hart, or of a number that it did not ask for, is none of its answers
abbrev pub heard : AskerView → Output → Heard
heard a output = if (output.hart == a.hart) && nat_lt output.number a.sent then told (had a output.number) output.word else Foreign

abbrev pub with_answer : AskerView → Output → AskerView
with_answer a output = record a { answers = slice_set a.answers output.number (Some output.word) }

-- ---- asking

abbrev pub request_of : AskerView → ℕ → Request
request_of a number = Word a.hart (slice_index a.words number) (Some number)

-- the next word is asked for where there is one, and not too many are open
abbrev pub next_of : AskerView → Option Request
next_of a = if nat_lt a.sent (length a.words) && nat_lt a.sent (first_open a.answers + a.window) then Some (request_of a a.sent) else None

-- requests for those of the words that have no answer; the first has this number
abbrev pub open_words : ℕ → ℕ → List ℕ → List (Option ℕ) → List Request
open_words hart number (word ∷ words) (None ∷ answers) = Word hart word (Some number) ∷ open_words hart (suc number) words answers
open_words hart number (word ∷ words) (Some answer ∷ answers) = open_words hart (suc number) words answers
open_words hart number words answers = []

-- what is asked once more: the outputs from the first number on without an answer, and all words without one that were asked for
abbrev pub asked_again : AskerView → List Request
asked_again a = From a.hart (first_open a.answers) ∷ open_words a.hart 0 (take a.sent a.words) a.answers
