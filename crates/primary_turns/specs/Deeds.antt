-- What is to be done, and what of it was told.
use Rattle.std.specs.Prelude.{◌≡◌, ◌+◌, ◌⊎◌, ◌++◌, ◌∷◌, [], ℕ, List, Option, Some, length, map, slice_get, slice_set}
use Rattle.requests.specs.declared.queue.Came.TheVariants.{Full as IsFull}
use Rattle.primary.specs.declared.released.Released.{Released}
use Rattle.wire.specs.Requests.{hart_of}
use Rattle.wire.specs.declared.requests.Request.{Request}
use Rattle.leading.specs.Telling.{told_in}
use Rattle.leading.specs.declared.heard.Heard.{Heard}
use Rattle.leading.specs.declared.heard.Heard.TheVariants as heard
use Rattle.attendance.specs.declared.finding.Finding.{Finding}
use Rattle.primary_turns.specs.declared.deeds.Deed.{Deed}
use Rattle.primary_turns.specs.declared.deeds.Deed.TheVariants.{Send, Tell, Full, HasRead, AnswersRead, Attend}
use Rattle.primary_turns.specs.declared.deeds.Extent.{Extent}

-- to what was to be done this is added
abbrev pub Adds : List Deed → List Deed → (List Deed → Type 0) → Type 0
Adds old new P = (added : List Deed) × (new ≡ old ++ added) × P added

-- what comes of a request: the answers that are known to be out, or that its hart is given no more words
abbrev pub deeds_of : Request → Heard → List Deed
deeds_of request (heard.Told answers) = map Tell answers.items
deeds_of request (heard.Came IsFull) = Full (hart_of request) ∷ []
deeds_of request other = []

-- outputs that went out are told in the term, one behind the other
abbrev pub tells : ℕ → List Released → List Deed
tells term released = map Tell (told_in term (map (λ r. r.output) released))

-- bytes are sent in one piece, where there are some
abbrev pub sends : List ℕ → List Deed
sends [] = []
sends (byte ∷ bytes) = Send (byte ∷ bytes) ∷ []

-- how many bytes these deeds send
abbrev pub bytes_sent : List Deed → ℕ
bytes_sent [] = 0
bytes_sent (Send bytes ∷ deeds) = length bytes + bytes_sent deeds
bytes_sent (other ∷ deeds) = bytes_sent deeds

-- for each hart the number of its answer that was told last, once these deeds are done
abbrev pub noted : List (Option ℕ) → List Deed → List (Option ℕ)
noted told [] = told
noted told (Tell a ∷ deeds) = noted (slice_set told a.output.hart (Some a.output.number)) deeds
noted told (other ∷ deeds) = noted told deeds

-- it is the number behind that of the hart's answer that was told last
abbrev pub IsBehindLast : List (Option ℕ) → ℕ → ℕ → Type 0
IsBehindLast told hart number = (last : ℕ) × (slice_get told hart ≡ Some (Some last)) × (number ≡ last + 1)

-- it is told of this keeper alone that it has read something, or nothing is told
abbrev pub AreRead : ℕ → List Deed → Type 0
AreRead keeper deeds = (deeds ≡ []) ⊎ ((extent : Extent) × (deeds ≡ HasRead keeper extent ∷ []))

-- it is attended to what is found of keepers, and nothing else is done
abbrev pub AreFindings : List Deed → Type 0
AreFindings deeds = (findings : List Finding) × (deeds ≡ map Attend findings)

-- it is told that a client has read all answers, or nothing is told
abbrev pub AreAnswersRead : List Deed → Type 0
AreAnswersRead deeds = (deeds ≡ []) ⊎ (deeds ≡ AnswersRead ∷ [])
