-- Legs and positions of honest frames end at closed cuts.
use Rattle.std.proofs.Common.{◌≡◌, ◌≢◌, ℕ, List, [], ◌∷◌, All, Option, get_or, sym, ap, subst, ◌∙◌, arith}
use Rattle.std.proofs.lemmas.List.Elements.{All-head, All-tail}
use Rattle.ft_types.specs.Counts.{count_at}
use Rattle.interleaving.specs.Machine.{Machine, System, Turn, counts, at}
use Rattle.interleaving.specs.Log.{Log, IsCut, IsHonest, IsSchedule}
use Rattle.interleaving.specs.Beginnings.{order_at}
use Rattle.interleaving.proofs.Replay.{confluence, followed}
use Rattle.interleaving.proofs.Beginnings.{own_order}
use Rattle.input_log.specs.declared.Input.{Input}
use Rattle.fragment_codec.specs.Rules.{OpeningParts}
use Rattle.log_join.specs.Cells.{Absent, One}
use Rattle.log_join.specs.Stores.{StoreView, opening_at, IsStore}
use Rattle.log_join.specs.Families.{Past}
use Rattle.log_join.proofs.Families.{opening_known}
use Rattle.closed_cut.specs.Chain.{LeadsTo}
use Rattle.closed_cut.specs.Position.{Stops, Last, Short, On, NoTop, Top}
use Rattle.ft_types.specs.declared.position.Position.{Position}
use Rattle.hart_replay.specs.declared.plans.PlannedLeg.{PlannedLeg}
use Rattle.hart_replay.specs.Plans.{terms_of, EndAt}
use Rattle.hart_replay.specs.Histories.{TermHistory, History, InTerm, machine_in, IsHonestStore}
use Rattle.hart_replay.specs.Laws.{ArePlanned}
use Rattle.hart_replay.specs.Failovers.{LegsEndAtCuts, PositionsAreCuts, PositionsAreKnown}
use Rattle.hart_replay.proofs.honesty.Legs.{is_cut}

module _ {Hart Page : Type 0} (system : System Hart Page (List Input)) where
  -- the machine at a cut of an honest log has the cut's counts
  counts_at_cut : (log : Log (List Input)) (m : Machine Hart Page) (turns : List (Turn (List Input))) (cut : ℕ → ℕ) → IsHonest system log m turns →
      IsCut log cut → (hart : ℕ) → counts system (at system m turns cut) hart ≡ cut hart
  counts_at_cut log m turns cut honest cut_is hart =
      let order = order_at system m turns cut in
      let own : IsSchedule log cut (order_at system m turns cut) = own_order system log m turns cut honest cut_is in
      let replayed = confluence system log m turns cut (order_at system m turns cut) honest cut_is own.begins in
      let went = followed system log m turns cut (order_at system m turns cut) honest cut_is own.begins in
      ap (λ (n : Machine Hart Page). counts system n hart) (sym (replayed.outcome own.complete))
      ∙ ap (λ (n : ℕ → ℕ). n hart) went.counts_are
      ∙ own.complete hart

  pub legs_end_at_cuts : LegsEndAtCuts system
  legs_end_at_cuts boot history store position legs rules honest planned k d less =
      let leg = get_or legs k d in
      let base = planned.bases k d less in
      let (past, granted, same) = opening_known history store honest.honest leg.term base.opening base.opens in (
        past,
        granted,
        is_cut system boot history store rules honest leg past granted base (planned.cuts k d less) (planned.edges k d less) (planned.inputs k d less),
      )

  -- the last leg is that of the position
  last_leg : (history : History Hart Page) (store : StoreView) (position : Position) (leg : PlannedLeg) (legs : List PlannedLeg) (before : ℕ) →
      LeadsTo store before (terms_of (leg ∷ legs)) position.term → EndAt position.counts (leg ∷ legs) →
      All (λ leg. InTerm history leg.term (λ t. IsCut t.log (count_at leg.ends))) (leg ∷ legs) →
      InTerm history position.term (λ t. IsCut t.log (count_at position.counts))
  last_leg history store position leg [] before (parent, same) ends cuts =
      subst (λ (t : ℕ). InTerm history t (λ t. IsCut t.log (count_at position.counts))) same
      (subst (λ (c : List ℕ). InTerm history leg.term (λ t. IsCut t.log (count_at c))) ends
      (All-head (λ (leg : PlannedLeg). InTerm history leg.term (λ t. IsCut t.log (count_at leg.ends))) leg [] cuts))
  last_leg history store position leg (next ∷ legs) before (parent, leads) ends cuts =
      last_leg history store position next legs leg.term leads ends.1
      (All-tail (λ (leg : PlannedLeg). InTerm history leg.term (λ t. IsCut t.log (count_at leg.ends))) leg (next ∷ legs) cuts)

  pub last_of : (boot : Machine Hart Page) (history : History Hart Page) (store : StoreView) (position : Position) (legs : List PlannedLeg) →
      IsStore store → IsHonestStore system boot history store → ArePlanned store position legs → position.term ≢ 0 →
      InTerm history position.term (λ t. IsCut t.log (count_at position.counts))
  last_of boot history store position [] rules honest planned some = absurd (some (sym planned.terms))
  last_of boot history store position (leg ∷ legs) rules honest planned some =
      last_leg history store position leg legs 0 planned.terms planned.ends (legs_end_at_cuts boot history store position (leg ∷ legs) rules honest planned)

  pub positions_are_cuts : PositionsAreCuts system
  positions_are_cuts boot history store position legs rules honest planned some =
      let (past, granted, cut) = last_of boot history store position legs rules honest planned some in
      record {
        is_cut = (past, granted, cut);
        counts =
            λ hart.
            ap (λ (p : Option (Past (TermHistory Hart Page))). counts system (machine_in system boot p (count_at position.counts)) hart) granted
            ∙ counts_at_cut past.told.log past.told.start past.told.turns (count_at position.counts)
            (honest.is_history.terms position.term past granted).honest cut hart;
      }

-- the walk stops at a term of the store
pub stops_opened : (store : StoreView) (top term : ℕ) (cut : ℕ → ℕ) (now : ℕ) → Stops store top term cut now →
    (o : OpeningParts) × (opening_at store term ≡ One o)
stops_opened store top term cut now (Last o opens is_top is reached) = (o, subst (λ (t : ℕ). opening_at store t ≡ One o) is opens)
stops_opened store top term cut now (Short o n next opens after parent chain is reached apart) =
    (o, subst (λ (t : ℕ). opening_at store t ≡ One o) is opens)
stops_opened store top term cut now (On o n next all opens after parent chain reached same rest) = stops_opened store top term cut next rest

pub positions_are_known : PositionsAreKnown
positions_are_known store position last (NoTop none is_boot counts top) is_last = omega (arith, is_boot)
positions_are_known store position last (Top walked) is_last =
    let (o, opens) = stops_opened store position.top position.term (count_at position.counts) walked.root walked.stops in
    is_last.openings position.term (λ absent. let no : One o ≡ Absent = sym opens ∙ absent in cc)
