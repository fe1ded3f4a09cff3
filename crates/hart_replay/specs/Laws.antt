-- What holds of each plan of a store of honest frames.
use Rattle.std.specs.Prelude.{ℕ, ◌≡◌, List, [], ◌∷◌, ◌++◌, All}
use Rattle.ft_types.specs.Counts.{count_at}
use Rattle.interleaving.specs.Machine.{Machine, System, Runs, run}
use Rattle.interleaving.specs.Log.{Begins, IsSchedule, IsReplayed, turns_of}
use Rattle.interleaving.specs.Beginnings.{order_at}
use Rattle.input_log.specs.declared.Input.{Input}
use Rattle.log_join.specs.Stores.{StoreView, IsStore, IsJoin}
use Rattle.closed_cut.specs.Chain.{LeadsTo}
use Rattle.ft_types.specs.declared.position.Position.{Position}
use Rattle.hart_replay.specs.declared.plans.PlannedLeg.{PlannedLeg}
use Rattle.hart_replay.specs.Facts.{EndsInside, HasEdges, HasInputs, HasMarks}
use Rattle.hart_replay.specs.Plans.{terms_of, BeginsAtBase, EndAt, log_of}
use Rattle.ft_types.specs.Guests.{GuestParts}
use Rattle.fragment_codec.specs.declared.frame.Frame.{Frame}
use Rattle.log_join.specs.Coming.{Gathers}
use Rattle.hart_replay.specs.Histories.{TermHistory, History, InTerm, machine_at, AreHonest, IsHonestStore}

-- what a plan of the store has, up to the position
pub record ArePlanned (store : StoreView) (position : Position) (legs : List PlannedLeg) : Type 0 where
  pub terms : LeadsTo store 0 (terms_of legs) position.term
  pub bases : All (BeginsAtBase store) legs
  pub ends : EndAt position.counts legs
  pub cuts : All (EndsInside store) legs
  pub edges : All (HasEdges store) legs
  pub inputs : All (HasInputs store) legs
  pub marks : All (HasMarks store) legs

module _ {Hart Page : Type 0} (system : System Hart Page (List Input)) where
  -- the term's harts went, as far as the leg's ends, in the order of a schedule of the leg; and each beginning of a
  -- schedule of the leg runs as the term did, is never stuck, and where it is complete ends at the term's machine there
  pub record FollowsTerm (term : TermHistory Hart Page) (leg : PlannedLeg) : Type 0 where
    pub own : IsSchedule (log_of leg) (count_at leg.ends) (order_at system term.start term.turns (count_at leg.ends))
    pub replayed : (order : List ℕ) → Begins (log_of leg).edges (count_at leg.ends) (log_of leg).start order →
        IsReplayed system (log_of leg) term.start term.turns (count_at leg.ends) order

  -- schedules of the legs, one after the other, lead from the machine to the last one
  abbrev pub LeadFrom : Machine Hart Page → List PlannedLeg → Machine Hart Page → Type 0
  LeadFrom m [] end = end ≡ m
  LeadFrom m (leg ∷ legs) end =
      (order : List ℕ) × IsSchedule (log_of leg) (count_at leg.ends) order ×
      Runs system m (turns_of (log_of leg).inputs (log_of leg).start order) ×
      LeadFrom (run system m (turns_of (log_of leg).inputs (log_of leg).start order)) legs end

  -- each leg of a plan of honest frames follows its term
  abbrev pub LegsFollow : Type 0
  LegsFollow =
      (boot : Machine Hart Page) (history : History Hart Page) (store : StoreView) (position : Position) (legs : List PlannedLeg) →
      IsStore store → IsHonestStore system boot history store → ArePlanned store position legs →
      All (λ leg. InTerm history leg.term (λ t. FollowsTerm t leg)) legs

  -- and finds the machine with which its term began, whatever schedules of the legs before it were taken
  abbrev pub LegsFindStart : Type 0
  LegsFindStart =
      (boot : Machine Hart Page) (history : History Hart Page) (store : StoreView) (position : Position)
      (front : List PlannedLeg) (leg : PlannedLeg) (back : List PlannedLeg) (m : Machine Hart Page) →
      IsStore store → IsHonestStore system boot history store → ArePlanned store position (front ++ leg ∷ back) →
      LeadFrom boot front m → InTerm history leg.term (λ t. m ≡ t.start)

  -- so the plan leads from boot to the history's machine at the position, and to no other
  pub record LeadToOne (boot : Machine Hart Page) (legs : List PlannedLeg) (end : Machine Hart Page) : Type 0 where
    pub leads : LeadFrom boot legs end
    pub only : (other : Machine Hart Page) → LeadFrom boot legs other → other ≡ end

  abbrev pub PlansLeadToPosition : Type 0
  PlansLeadToPosition =
      (boot : Machine Hart Page) (history : History Hart Page) (store : StoreView) (position : Position) (legs : List PlannedLeg) →
      IsStore store → IsHonestStore system boot history store → ArePlanned store position legs →
      LeadToOne boot legs (machine_at system boot history position.term (count_at position.counts))

  -- honest frames come together as a store of honest frames
  abbrev pub HonestFramesGather : Type 0
  HonestFramesGather =
      (boot : Machine Hart Page) (history : History Hart Page) (guest : GuestParts) (frames : List Frame) (store : StoreView) →
      Gathers guest frames store → AreHonest system boot history frames → IsHonestStore system boot history store

  -- and the join of two such stores is one
  abbrev pub HonestStoresJoin : Type 0
  HonestStoresJoin =
      (boot : Machine Hart Page) (history : History Hart Page) (a b c : StoreView) → IsJoin a b c →
      IsHonestStore system boot history a → IsHonestStore system boot history b → IsHonestStore system boot history c
