-- A leg that grew, in place of the one that it was: planned up to the new position, and led on from where that one stood.
use Rattle.std.proofs.Common.{◌≡◌, ◌<◌, ◌+◌, ◌++◌, ◌∷◌, ℕ, List, [], All, Some, get_or, length, length-append, refl, sym, ap, subst, ◌∙◌, arith}
use Rattle.std.proofs.lemmas.List.Elements.{All-append, All-cons, All-head, All-nil, All-tail}
use Rattle.ft_types.specs.Counts.{count_at}
use Rattle.ft_types.specs.Guests.{GuestParts}
use Rattle.ft_types.specs.declared.position.Position.{Position}
use Rattle.edge_log.specs.EdgeLog.{IsLog}
use Rattle.log_join.specs.Cells.{One}
use Rattle.log_join.specs.Stores.{StoreView, IsStore, opening_at}
use Rattle.closed_cut.specs.Chain.{LeadsTo}
use Rattle.closed_cut.specs.Position.{IsPosition}
use Rattle.guest_image.specs.Image.{ImageContents, guest_of}
use Rattle.guest_image.specs.Machine.{MachineState, boot_machine}
use Rattle.hart_replay.specs.declared.plans.PlannedLeg.{PlannedLeg}
use Rattle.hart_replay.specs.declared.fault.ReplayFault.{ReplayFault}
use Rattle.hart_replay.specs.Facts.{EndsInside, HasEdges, HasInputs, HasMarks}
use Rattle.hart_replay.specs.GoingOn.{BeginsLeg, GoOnFrom}
use Rattle.hart_replay.specs.KeepingUp.{KeepsUp}
use Rattle.hart_replay.specs.Laws.{ArePlanned}
use Rattle.hart_replay.specs.Leading.{IsLegsFault}
use Rattle.hart_replay.specs.Plans.{BeginsAtBase, EndAt, GoOn, IsLeg, IsPlan, log_of, terms_of}
use Rattle.hart_replay.specs.Leading.{IsSoFar}
use Rattle.hart_replay.specs.Replays.{IsOutcome, LegLeads, LegsLead, leg_turns}
use Rattle.hart_replay.proofs.walking.Outcomes.{boot_so_far, leg_base, leg_is as leg_there}
use Rattle.hart_lease.specs.Runs.{counts_of, run_of}
use Rattle.hart_lease.proofs.journals.Sizes.{as_large, counts_ran}
use Rattle.interleaving.specs.Log.{counts_after, turns_of}
use Rattle.std.proofs.Math.Path.{fun_ext}
use Rattle.hart_replay.specs.machinery.Going.{LeadsOn, FailsOn, IsAt}
use Rattle.hart_replay.proofs.Along.{all_led, along, fails_there, goes_on_at, goes_to_next, split_last}
use Rattle.hart_replay.proofs.Fronts.{seam_within}
use Rattle.hart_replay.proofs.walking.Made.{AreMade, made_more, made_none}
use Rattle.std.proofs.Math.Seq.{get_or-append_seam}

-- ---- another leg in place of the last

pub all_front : {A : Type 0} (P : A → Type 0) (front : List A) (x : A) → All P (front ++ x ∷ []) → All P front
all_front P [] x all = All-nil P
all_front P (y ∷ front) x all =
    All-cons P y front (All-head P y (front ++ x ∷ []) all) (all_front P front x (All-tail P y (front ++ x ∷ []) all))

pub all_last : {A : Type 0} (P : A → Type 0) (front : List A) (x : A) → All P (front ++ x ∷ []) → P x
all_last P [] x all = All-head P x [] all
all_last P (y ∷ front) x all = all_last P front x (All-tail P y (front ++ x ∷ []) all)

pub all_anew : {A : Type 0} (P : A → Type 0) (front : List A) (x y : A) → All P (front ++ x ∷ []) → P y → All P (front ++ y ∷ [])
all_anew P front x y all one = All-append P front (y ∷ []) (all_front P front x all) (All-cons P y [] one (All-nil P))

module _ (old new : PlannedLeg) (term : new.term ≡ old.term) (base : new.base ≡ old.base) where
  pub terms_same : (front : List PlannedLeg) → terms_of (front ++ new ∷ []) ≡ terms_of (front ++ old ∷ [])
  terms_same [] = ap (λ (t : ℕ). t ∷ []) term
  terms_same (leg ∷ front) = ap (λ (ts : List ℕ). leg.term ∷ ts) (terms_same front)

  pub ends_anew : (counts now : List ℕ) (front : List PlannedLeg) → new.ends ≡ now → EndAt counts (front ++ old ∷ []) → EndAt now (front ++ new ∷ [])
  ends_anew counts now [] ends at = ends
  ends_anew counts now (leg ∷ []) ends at = (at.0 ∙ sym base, ends)
  ends_anew counts now (leg ∷ next ∷ front) ends at = (at.0, ends_anew counts now (next ∷ front) ends at.1)

  goes_anew : (now : ℕ → ℕ) (front : List PlannedLeg) → GoOn now (front ++ old ∷ []) → GoOn now (front ++ new ∷ [])
  goes_anew now [] on = ((λ hart. ap (λ (b : List ℕ). count_at b hart) base ∙ on.0 hart), tt)
  goes_anew now (leg ∷ front) on = (on.0, goes_anew (count_at leg.ends) front on.1)

  plan_anew : (guest : GuestParts) (front : List PlannedLeg) → IsPlan guest (front ++ old ∷ []) → IsLeg guest.harts new → IsPlan guest (front ++ new ∷ [])
  plan_anew guest front plan is =
      record { each = all_anew (IsLeg guest.harts) front old new plan.each is; on = goes_anew (λ hart. 0) front plan.on }

-- ---- planned up to the position

module _ (store : StoreView) (rules : IsStore store) (p : Position) (position : IsPosition store p) (front : List PlannedLeg) (old new : PlannedLeg)
    (counts : List ℕ) (at_term : old.term ≡ p.term) (ends : new.ends ≡ p.counts) (term : new.term ≡ old.term) (base : new.base ≡ old.base)
    (start : new.edges.start ≡ new.base) (edges : HasEdges store new) (inputs : HasInputs store new) (marks : HasMarks store new)
    (begins : BeginsAtBase store old) where
  opens : opening_at store p.term ≡ One begins.opening
  opens = ap (opening_at store) (sym at_term) ∙ begins.opens

  made : AreMade store p (new ∷ []) begins.opening.parent begins.opening.base
  made =
      made_more store rules p position [] p.term p.counts (made_none store p position) begins.opening opens new (term ∙ at_term) (base ∙ begins.base) ends start
      edges inputs marks

  pub leg_is : IsLeg store.guest.harts new
  leg_is = All-head (IsLeg store.guest.harts) new [] made.each

  pub planned_on : LeadsTo store 0 (terms_of (front ++ old ∷ [])) old.term → All (BeginsAtBase store) (front ++ old ∷ []) → EndAt counts (front ++ old ∷ []) →
      All (EndsInside store) front → All (HasEdges store) front → All (HasInputs store) front → All (HasMarks store) front → ArePlanned store p (front ++ new ∷ [])
  planned_on terms bases at cuts has_edges has_inputs has_marks =
      record {
        terms =
            subst (λ (t : ℕ). LeadsTo store 0 (terms_of (front ++ new ∷ [])) t) at_term
            (subst (λ (ts : List ℕ). LeadsTo store 0 ts old.term) (sym (terms_same old new term base front)) terms);
        bases = all_anew (BeginsAtBase store) front old new bases (All-head (BeginsAtBase store) new [] made.bases);
        ends = ends_anew old new term base counts p.counts front ends at;
        cuts = All-append (EndsInside store) front (new ∷ []) cuts made.inside;
        edges = All-append (HasEdges store) front (new ∷ []) has_edges made.edges;
        inputs = All-append (HasInputs store) front (new ∷ []) has_inputs made.inputs;
        marks = All-append (HasMarks store) front (new ∷ []) has_marks made.marks;
      }

-- ---- led on

module _ (image : ImageContents) (front : List PlannedLeg) (old new : PlannedLeg) (now : MachineState) (kept : KeepsUp image (front ++ old ∷ []) now)
    (is : IsLeg image.harts new) (begins : BeginsLeg old new) (log : IsLog new.edges.start new.edges.rows) where
  abbrev pub on : GoOnFrom (front ++ old ∷ []) (front ++ new ∷ [])
  on = record { front = front; last = old; same = front; next = new; back = []; was = refl; is = refl; alike = refl; begins = begins }

  pub plan : IsPlan (guest_of image) (front ++ new ∷ [])
  plan = plan_anew old new begins.term begins.base (guest_of image) front kept.plan is

  at : IsAt image (front ++ new ∷ []) (length front) now
  at = goes_on_at image (front ++ old ∷ []) (front ++ new ∷ []) now kept plan on log

  within : length front < length (front ++ new ∷ [])
  within = seam_within front new []

  pub led_on : (n : MachineState) → LeadsOn new now n → IsOutcome image (front ++ new ∷ []) n
  led_on n leads =
      all_led image (front ++ new ∷ []) plan (length front + 1) n (let many = length-append front (new ∷ []) in omega (arith, many))
      (goes_to_next image (front ++ new ∷ []) plan (length front) now at new within (sym (get_or-append_seam front new [] new)) n leads)

  pub failed_on : (fault : ReplayFault) → FailsOn new now fault → IsLegsFault image (front ++ new ∷ []) fault
  failed_on fault fails =
      fails_there image (front ++ new ∷ []) plan (length front) now at new within (sym (get_or-append_seam front new [] new)) fault fails

-- ---- where a plan's last leg led to

module _ (image : ImageContents) (front : List PlannedLeg) (leg : PlannedLeg) (now : MachineState) (kept : KeepsUp image (front ++ leg ∷ []) now) where
  abbrev parts : (mid : MachineState) × LegsLead front (boot_machine image) mid × LegLeads leg mid now
  parts = split_last front leg (boot_machine image) now kept.led

  abbrev mid : MachineState
  mid = parts.0

  so_far : IsSoFar image (front ++ leg ∷ []) (length front) mid
  so_far =
      along image (front ++ leg ∷ []) kept.plan front [] (leg ∷ []) refl (boot_machine image) mid
      (boot_so_far image (front ++ leg ∷ []) (boot_machine image) kept.plan refl) parts.1

  here : leg ≡ get_or (front ++ leg ∷ []) (length front) leg
  here = sym (get_or-append_seam front leg [] leg)

  base : (hart : ℕ) → count_at leg.base hart ≡ counts_of mid hart
  base = leg_base image (front ++ leg ∷ []) kept.plan (length front) mid so_far leg (seam_within front leg []) here

  abbrev order : List ℕ
  order = parts.2.0

  ran : run_of mid (turns_of (log_of leg).inputs (counts_of mid) order) ≡ Some now
  ran = subst (λ (c : ℕ → ℕ). run_of mid (turns_of (log_of leg).inputs c order) ≡ Some now) (fun_ext base) parts.2.2

  -- its harts are at the leg's ends
  pub at_ends : (hart : ℕ) → counts_of now hart ≡ count_at leg.ends hart
  at_ends hart =
      ap (λ (c : ℕ → ℕ). c hart) (counts_ran mid now (log_of leg).inputs order ran) ∙
      (ap (λ (c : ℕ → ℕ). counts_after c order hart) (sym (fun_ext base)) ∙ parts.2.1.complete hart)

  -- and are as many
  pub many_harts : length now.harts ≡ length leg.base
  many_harts =
      let is = leg_there image (front ++ leg ∷ []) kept.plan (length front) mid so_far leg (seam_within front leg []) here in
      let large = as_large mid now (leg_turns leg order) parts.2.2 in
      large.harts ∙ sym is.harts

  pub leg_kept : IsLeg image.harts leg
  leg_kept = all_last (IsLeg (guest_of image).harts) front leg kept.plan.each
