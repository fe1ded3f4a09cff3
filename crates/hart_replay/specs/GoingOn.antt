-- When one plan goes on where another one ends.
use Rattle.std.specs.Prelude.{◌≡◌, ◌<◌, ◌≤◌, ◌++◌, ◌∷◌, ℕ, List, [], map}
use Rattle.ft_types.specs.declared.names.TheConstants.{HART_LIMIT}
use Rattle.ft_types.specs.Counts.{count_at}
use Rattle.edge_log.specs.EdgeLog.{AddsLater}
use Rattle.input_log.specs.Inputs.{HearsMore, inputs_of}
use Rattle.hart_replay.specs.declared.plans.PlannedLeg.{PlannedLeg}

-- the first leg begins the second: their terms and bases are the same, the second ends no earlier, and of the steps before the
-- first one's ends it has the same edges and inputs
pub record BeginsLeg (leg later : PlannedLeg) : Type 0 where
  pub term : later.term ≡ leg.term
  pub base : later.base ≡ leg.base
  pub ends : (hart : ℕ) → hart < HART_LIMIT → count_at leg.ends hart ≤ count_at later.ends hart
  pub edges : AddsLater leg.edges (count_at leg.ends) later.edges
  pub inputs : (hart : ℕ) → hart < HART_LIMIT → HearsMore (inputs_of leg.inputs hart) (count_at leg.ends hart) (inputs_of later.inputs hart)

-- a leg but for what it notes, of which a replay takes no account
abbrev pub but_notes : PlannedLeg → PlannedLeg
but_notes leg = record leg { marks = [] }

-- the legs are the same, but for what they note
abbrev pub AreAlike : List PlannedLeg → List PlannedLeg → Type 0
AreAlike first second = map but_notes second ≡ map but_notes first

-- the first legs begin the second, but for what they note
abbrev pub IsFront : List PlannedLeg → List PlannedLeg → Type 0
IsFront first second = (same : List PlannedLeg) × (rest : List PlannedLeg) × (second ≡ same ++ rest) × AreAlike first same

-- the second legs go on from the first: all of these but the last are theirs too, but for what they note, and the last begins their next
pub record GoOnFrom (old new : List PlannedLeg) : Type 0 where
  pub front : List PlannedLeg
  pub last : PlannedLeg
  pub same : List PlannedLeg
  pub next : PlannedLeg
  pub back : List PlannedLeg
  pub was : old ≡ front ++ last ∷ []
  pub is : new ≡ same ++ next ∷ back
  pub alike : AreAlike front same
  pub begins : BeginsLeg last next
