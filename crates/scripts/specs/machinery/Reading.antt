-- What stands in a line, by its parts.
use Rattle.std.specs.Prelude.{◌≡◌, ℕ, List, []}
use Rattle.scripts.specs.declared.event.Event.{Event}
use Rattle.scripts.specs.Events.{name_of, numbers_of, words_of, MayHappen}

-- the event has this name and these numbers, and no word
abbrev pub Says : ℕ → List ℕ → List ℕ → Event → Type 0
Says harts name numbers e = MayHappen harts e × (name ≡ name_of e) × (numbers ≡ numbers_of e) × (words_of e ≡ [])

abbrev pub SaysNothing : ℕ → List ℕ → List ℕ → Type 0
SaysNothing harts name numbers = (e : Event) → Says harts name numbers e → ⊥
