-- Harts that yield to an asker one after another: private words.
use Rattle.std.specs.Prelude.{ℕ, zero, suc, if◌then◌else◌}
use Rattle.crew_pages.specs.Rights.{Right, stands, give_up}
use Rattle.hart_lease.specs.declared.asked.Asked.{Asked}

-- a hart whose right stands in the asker's way gives it up at its settled count
abbrev pub yields : Asked → (ℕ → ℕ) → ℕ → Right → Right
yields asked settled other right = if stands right asked.hart asked.want other then give_up right other (settled other) else right

-- the first n harts do
abbrev pub yielded : Asked → (ℕ → ℕ) → ℕ → Right → Right
yielded asked settled zero right = right
yielded asked settled (suc n) right = yields asked settled n (yielded asked settled n right)
