-- Which events may come.
use Rattle.std.specs.Prelude.{◌≡◌, ◌<◌, ℕ, false}
use Rattle.input_log.specs.Inputs.{is_bell}
use Rattle.scripts.specs.declared.event.Event.{Event}
use Rattle.scripts.specs.declared.event.Event.TheVariants.{Step, Offer, Seal, Deliver, Join, Acknowledge, Release, Stop, Lose, Grant}

-- what may come to a primary of a guest with so many harts: a hart that is named is one of them, and no bell is offered
abbrev pub MayCome : ℕ → Event → Type 0
MayCome harts (Step hart) = hart < harts
MayCome harts (Offer hart i) = (hart < harts) × (is_bell i ≡ false)
MayCome harts Seal = Unit {0}
MayCome harts (Deliver keeper frame) = Unit {0}
MayCome harts (Join keeper other) = Unit {0}
MayCome harts (Acknowledge keeper) = Unit {0}
MayCome harts Release = Unit {0}
MayCome harts Stop = Unit {0}
MayCome harts (Lose keeper) = Unit {0}
MayCome harts (Grant term keepers) = Unit {0}
