-- How far harts are from where they stop.
use Rattle.std.specs.Prelude.{ℕ, ◌+◌, ◌-◌, List, [], ◌∷◌}
use Rattle.rv32_hart.specs.Hart.{Hart}

-- how many steps the harts have to go to these stops
abbrev pub steps_left : List ℕ → List Hart → ℕ
steps_left [] harts = 0
steps_left (stop ∷ stops) [] = 0
steps_left (stop ∷ stops) (hart ∷ harts) = (stop - hart.count) + steps_left stops harts
