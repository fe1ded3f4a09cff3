-- Plans, as contracts see them.
use Rattle.std.specs.Prelude.{ℕ, ◌≡◌, ◌≤◌, List, [], ◌∷◌, All, map, length, max}
use Rattle.ft_types.specs.Counts.{count_at}
use Rattle.ft_types.specs.Guests.{GuestParts}
use Rattle.interleaving.specs.Log.{Log, IsCut}
use Rattle.edge_log.specs.EdgeLog.{edges_of}
use Rattle.input_log.specs.declared.Input.{Input}
use Rattle.input_log.specs.Inputs.{inputs_of, inputs_at}
use Rattle.fragment_codec.specs.Rules.{OpeningParts}
use Rattle.log_join.specs.Cells.{One}
use Rattle.log_join.specs.Stores.{StoreView, opening_at}
use Rattle.hart_replay.specs.declared.plans.PlannedLeg.{PlannedLeg}

-- whose plan it is, and its legs, the oldest term first
pub record PlanView : Type 0 where
  pub guest : GuestParts
  pub legs : List PlannedLeg

-- the terms of the legs
abbrev pub terms_of : List PlannedLeg → List ℕ
terms_of legs = map (λ leg. leg.term) legs

-- the leg begins at its term's base
pub record BeginsAtBase (store : StoreView) (leg : PlannedLeg) : Type 0 where
  pub opening : OpeningParts
  pub opens : opening_at store leg.term ≡ One opening
  pub base : leg.base ≡ opening.base

-- each leg ends where the next begins, and the last one at these counts
abbrev pub EndAt : List ℕ → List PlannedLeg → Type 0
EndAt counts [] = Unit {0}
EndAt counts (leg ∷ []) = leg.ends ≡ counts
EndAt counts (leg ∷ next ∷ legs) = (leg.ends ≡ next.base) × EndAt counts (next ∷ legs)

-- the greatest of the legs' marks of a hart, or 0
abbrev pub noted_in : List PlannedLeg → ℕ → ℕ
noted_in [] hart = 0
noted_in (leg ∷ legs) hart = max (count_at leg.marks hart) (noted_in legs hart)

-- what a leg asks for, in the theory's words
abbrev pub log_of : PlannedLeg → Log (List Input)
log_of leg =
    record {
      edges = edges_of leg.edges;
      inputs = λ hart count. inputs_at (inputs_of leg.inputs hart) count;
      start = count_at leg.base;
      end = count_at leg.ends;
    }

-- what every leg of a plan keeps
pub record IsLeg (many : ℕ) (leg : PlannedLeg) : Type 0 where
  pub harts : length leg.base ≡ many
  pub marks : length leg.marks ≡ many
  pub no_others : (hart : ℕ) → many ≤ hart → count_at leg.ends hart ≡ 0
  pub start : leg.edges.start ≡ leg.base
  pub cut : IsCut (log_of leg) (count_at leg.ends)

-- the legs go on from these counts, each where the last one ended
abbrev pub GoOn : (ℕ → ℕ) → List PlannedLeg → Type 0
GoOn now [] = Unit {0}
GoOn now (leg ∷ legs) = ((hart : ℕ) → count_at leg.base hart ≡ now hart) × GoOn (count_at leg.ends) legs

-- what every plan keeps: its legs are cuts, and lead on from boot
pub record IsPlan (guest : GuestParts) (legs : List PlannedLeg) : Type 0 where
  pub each : All (IsLeg guest.harts) legs
  pub on : GoOn (λ hart. 0) legs
