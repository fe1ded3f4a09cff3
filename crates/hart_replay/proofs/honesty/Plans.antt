-- A plan of honest frames leads from boot to the position.
use Rattle.std.proofs.Common.{◌≡◌, ℕ, List, [], ◌∷◌, ◌++◌, All, Option, Some, refl, sym, ap, subst, ◌∙◌}
use Rattle.std.proofs.lemmas.List.Elements.{All-head, All-tail}
use Rattle.ft_types.specs.Counts.{count_at}
use Rattle.interleaving.specs.Machine.{Machine, System, Runs, run}
use Rattle.interleaving.specs.Log.{IsSchedule, turns_of}
use Rattle.interleaving.specs.Beginnings.{order_at}
use Rattle.input_log.specs.declared.Input.{Input}
use Rattle.fragment_codec.specs.Rules.{OpeningParts}
use Rattle.log_join.specs.Stores.{StoreView, IsStore}
use Rattle.log_join.specs.Families.{Past}
use Rattle.log_join.proofs.Families.{opening_known}
use Rattle.closed_cut.specs.Chain.{IsParent, LeadsTo}
use Rattle.ft_types.specs.declared.position.Position.{Position}
use Rattle.hart_replay.specs.declared.plans.PlannedLeg.{PlannedLeg}
use Rattle.hart_replay.specs.Facts.{EndsInside, HasEdges, HasInputs}
use Rattle.hart_replay.specs.Plans.{terms_of, BeginsAtBase, EndAt, log_of}
use Rattle.hart_replay.specs.Histories.{TermHistory, History, InTerm, machine_in, machine_at, IsHonestStore}
use Rattle.hart_replay.specs.Laws.{ArePlanned, FollowsTerm, LeadFrom, LeadToOne}
use Rattle.hart_replay.proofs.honesty.Legs.{same_start, follows}

-- legs that are as planned, each by itself
pub record AreGood (store : StoreView) (legs : List PlannedLeg) : Type 0 where
  pub bases : All (BeginsAtBase store) legs
  pub cuts : All (EndsInside store) legs
  pub edges : All (HasEdges store) legs
  pub inputs : All (HasInputs store) legs

good_tail : (store : StoreView) (leg : PlannedLeg) (legs : List PlannedLeg) → AreGood store (leg ∷ legs) → AreGood store legs
good_tail store leg legs good =
    record {
      bases = All-tail (BeginsAtBase store) leg legs good.bases;
      cuts = All-tail (EndsInside store) leg legs good.cuts;
      edges = All-tail (HasEdges store) leg legs good.edges;
      inputs = All-tail (HasInputs store) leg legs good.inputs;
    }

-- the legs go on from these counts, and end at the last ones
abbrev GoFrom : List ℕ → List PlannedLeg → (ℕ → ℕ) → Type 0
GoFrom counts [] from = from ≡ count_at counts
GoFrom counts (leg ∷ legs) from = from ≡ count_at leg.base

next_goes : (counts : List ℕ) (leg : PlannedLeg) (legs : List PlannedLeg) → EndAt counts (leg ∷ legs) → GoFrom counts legs (count_at leg.ends) ×
    EndAt counts legs
next_goes counts leg [] ends = (ap count_at ends, tt)
next_goes counts leg (next ∷ legs) ends = (ap count_at ends.0, ends.1)

module _ {Hart Page : Type 0} (system : System Hart Page (List Input)) (boot : Machine Hart Page) (history : History Hart Page)
    (store : StoreView) (rules : IsStore store) (honest : IsHonestStore system boot history store) (position : Position) where
  abbrev last : Machine Hart Page
  last = machine_at system boot history position.term (count_at position.counts)

  module _ (leg : PlannedLeg) (legs : List PlannedLeg) (before : ℕ) (from : ℕ → ℕ) (parent : IsParent store before leg.term) (goes : from ≡ count_at leg.base)
      (past : Past (TermHistory Hart Page)) (granted : history leg.term ≡ Some past) (same : past.opening ≡ parent.opening)
      (base : BeginsAtBase store leg) (cut : EndsInside store leg) (edges : HasEdges store leg) (inputs : HasInputs store leg) where
    abbrev start : Machine Hart Page
    start = past.told.start

    -- the machine that the leg finds is the one with which its term began
    pub found : machine_at system boot history before from ≡ past.told.start
    found =
        sym
        ((honest.is_history.terms leg.term past granted).start ∙
        (ap (λ t. machine_at system boot history t past.told.log.start) (ap (λ (o : OpeningParts). o.parent) same ∙ parent.is) ∙
        ap (machine_at system boot history before) (sym (same_start system boot history store rules honest leg past granted base cut edges inputs) ∙ sym goes)))

    -- and what it leaves is the term's at the leg's ends
    led : FollowsTerm system past.told leg
    led = follows system boot history store rules honest leg past granted base cut edges inputs

    pub left : (order : List ℕ) → IsSchedule (log_of leg) (count_at leg.ends) order →
        run system (machine_at system boot history before from) (turns_of (log_of leg).inputs (log_of leg).start order) ≡
        machine_at system boot history leg.term (count_at leg.ends)
    left order schedule =
        ap (λ m. run system m (turns_of (log_of leg).inputs (log_of leg).start order)) found ∙
        ((led.replayed order schedule.begins).outcome schedule.complete ∙
        sym (ap (λ (p : Option (Past (TermHistory Hart Page))). machine_in system boot p (count_at leg.ends)) granted))

    one_leg : LeadToOne system (machine_at system boot history leg.term (count_at leg.ends)) legs (machine_at system boot history position.term
        (count_at position.counts)) →
        LeadToOne system (machine_at system boot history before from) (leg ∷ legs) (machine_at system boot history position.term (count_at position.counts))
    one_leg rest =
        record {
          leads = (
            order_at system past.told.start past.told.turns (count_at leg.ends),
            led.own,
            subst (λ m. Runs system m (turns_of (log_of leg).inputs (log_of leg).start (order_at system past.told.start past.told.turns
                (count_at leg.ends))))
                (sym found) (led.replayed (order_at system past.told.start past.told.turns (count_at leg.ends)) led.own.begins).runs,
            subst (λ m. LeadFrom system m legs last) (sym (left (order_at system past.told.start past.told.turns (count_at leg.ends))
                led.own)) rest.leads,
          );
          only =
              λ other (order, schedule, runs, leads).
              rest.only other (subst (λ m. LeadFrom system m legs other) (left order schedule) leads);
        }

  lead_on : (legs : List PlannedLeg) (before : ℕ) (from : ℕ → ℕ) → LeadsTo store before (terms_of legs) position.term → GoFrom position.counts legs from →
      EndAt position.counts legs → AreGood store legs →
      LeadToOne system (machine_at system boot history before from) legs (machine_at system boot history position.term (count_at position.counts))
  lead_on [] before from same goes ends good =
      let is : machine_at system boot history before from ≡ machine_at system boot history position.term (count_at position.counts) =
      ap (λ t. machine_at system boot history t from) same ∙ ap (machine_at system boot history position.term) goes in
      record { leads = sym is; only = λ other e. e ∙ is }
  lead_on (leg ∷ legs) before from (parent, leads) goes ends good =
      let (next, later) = next_goes position.counts leg legs ends in
      let (past, granted, same) = opening_known history store honest.honest leg.term parent.opening parent.opens in
      one_leg leg legs before from parent goes past granted same (All-head (BeginsAtBase store) leg legs good.bases)
      (All-head (EndsInside store) leg legs good.cuts)
      (All-head (HasEdges store) leg legs good.edges) (All-head (HasInputs store) leg legs good.inputs)
      (lead_on legs leg.term (count_at leg.ends) leads next later (good_tail store leg legs good))

  -- what schedules of the legs before one lead to
  lead_to : (front : List PlannedLeg) (leg : PlannedLeg) (back : List PlannedLeg) (before : ℕ) (from : ℕ → ℕ) → LeadsTo store before
      (terms_of (front ++ leg ∷ back)) position.term →
      GoFrom position.counts (front ++ leg ∷ back) from → EndAt position.counts (front ++ leg ∷ back) → AreGood store (front ++ leg ∷ back) →
      (m : Machine Hart Page) → LeadFrom system (machine_at system boot history before from) front m → InTerm history leg.term (λ t. m ≡ t.start)
  lead_to [] leg back before from (parent, leads) goes ends good m is =
      let (past, granted, same) = opening_known history store honest.honest leg.term parent.opening parent.opens in (
        past,
        granted,
        is ∙
            found leg back before from parent goes past granted same (All-head (BeginsAtBase store) leg back good.bases)
            (All-head (EndsInside store) leg back good.cuts) (All-head (HasEdges store) leg back good.edges) (All-head (HasInputs store) leg back good.inputs),
      )
  lead_to (first ∷ front) leg back before from (parent, leads) goes ends good m (order, schedule, runs, on) =
      let legs = front ++ leg ∷ back in
      let (next, later) = next_goes position.counts first legs ends in
      let (past, granted, same) = opening_known history store honest.honest first.term parent.opening parent.opens in
      lead_to front leg back first.term (count_at first.ends) leads next later (good_tail store first legs good) m
      (subst (λ n. LeadFrom system n front m)
      (left first legs before from parent goes past granted same (All-head (BeginsAtBase store) first legs good.bases)
      (All-head (EndsInside store) first legs good.cuts)
      (All-head (HasEdges store) first legs good.edges) (All-head (HasInputs store) first legs good.inputs) order schedule) on)

  all_good : (legs : List PlannedLeg) → ArePlanned store position legs → AreGood store legs
  all_good legs planned = record { bases = planned.bases; cuts = planned.cuts; edges = planned.edges; inputs = planned.inputs }

  -- no term is boot's
  boot_is : (cut : ℕ → ℕ) → machine_at system boot history 0 cut ≡ boot
  boot_is cut = ap (λ (p : Option (Past (TermHistory Hart Page))). machine_in system boot p cut) honest.is_history.none

  from_boot : (cut : ℕ → ℕ) (legs : List PlannedLeg) (m : Machine Hart Page) → LeadFrom system boot legs m →
      LeadFrom system (machine_at system boot history 0 cut) legs m
  from_boot cut legs m leads = subst (λ n. LeadFrom system n legs m) (sym (boot_is cut)) leads

  pub finds_start : (front : List PlannedLeg) (leg : PlannedLeg) (back : List PlannedLeg) → ArePlanned store position (front ++ leg ∷ back) →
      (m : Machine Hart Page) → LeadFrom system boot front m → InTerm history leg.term (λ t. m ≡ t.start)
  finds_start [] leg back planned m leads =
      lead_to [] leg back 0 (count_at leg.base) planned.terms refl planned.ends (all_good (leg ∷ back) planned) m
      (from_boot (count_at leg.base) [] m leads)
  finds_start (first ∷ front) leg back planned m leads =
      lead_to (first ∷ front) leg back 0 (count_at first.base) planned.terms refl planned.ends (all_good (first ∷ front ++ leg ∷ back) planned) m
      (from_boot (count_at first.base) (first ∷ front) m leads)

  -- from boot
  pub leads_to_position : (legs : List PlannedLeg) → ArePlanned store position legs → LeadToOne system boot legs last
  leads_to_position [] planned =
      subst (λ n. LeadToOne system n [] last) (boot_is (count_at position.counts))
      (lead_on [] 0 (count_at position.counts) planned.terms refl planned.ends (all_good [] planned))
  leads_to_position (leg ∷ legs) planned =
      subst (λ n. LeadToOne system n (leg ∷ legs) last) (boot_is (count_at leg.base))
      (lead_on (leg ∷ legs) 0 (count_at leg.base) planned.terms refl planned.ends (all_good (leg ∷ legs) planned))
