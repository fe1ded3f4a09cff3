-- What a list of events says may come.
use Rattle.std.proofs.Common.{◌≡◌, ℕ, List, [], ◌∷◌, refl}
use Rattle.std.specs.List.{AllByRecursion}
use Rattle.std.specs.Prelude.{false}
use Rattle.input_log.specs.declared.Input.{Input}
use Rattle.input_log.specs.declared.Input.TheVariants as input
use Rattle.input_log.specs.Inputs.{is_bell}
use Rattle.scripts.specs.Script.{IsWaited}
use Rattle.scripts.specs.declared.event.Event.{Event}
use Rattle.scripts.specs.declared.event.Event.TheVariants.{Step, Offer, Seal, Deliver, Join, Acknowledge, Release, Stop, Lose, Grant}
use Rattle.scripts.specs.Coming.{MayCome}
use Rattle.scripts.specs.Events.{MayHappen, MayAllHappen}

no_bell : (i : Input) → IsWaited i → is_bell i ≡ false
no_bell input.Timer p = refl
no_bell (input.Word w) p = refl
no_bell (input.Bell source) p = elim p [ ]

comes : (harts : ℕ) (e : Event) → MayHappen harts e → MayCome harts e
comes harts (Step hart) p = p.0
comes harts (Offer hart i) p = (p.0.0, no_bell i p.1)
comes harts Seal p = tt
comes harts (Deliver keeper frame) p = tt
comes harts (Join keeper other) p = tt
comes harts (Acknowledge keeper) p = tt
comes harts Release p = tt
comes harts Stop p = tt
comes harts (Lose keeper) p = tt
comes harts (Grant term keepers) p = tt

all : (harts : ℕ) (es : List Event) → MayAllHappen harts es → AllByRecursion (MayCome harts) es
all harts [] p = tt
all harts (e ∷ es) p = (comes harts e p.0, all harts es p.1)

pub all_come : (harts named : ℕ) (es : List Event) → harts ≡ named → MayAllHappen named es → AllByRecursion (MayCome harts) es
all_come harts named es same p = all harts es (rw same p)
