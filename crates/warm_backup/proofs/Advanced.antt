-- A backup whose last leg need only grow.
use Rattle.std.proofs.Common.{◌≡◌, ◌⊎◌, ◌≤◌, ◌++◌, ◌∷◌, ◌-◌, inl, inr, ℕ, List, [], true, false, true≢false, length, sum, refl, sym, ap, subst, ◌∙◌}
use Rattle.ft_types.specs.Counts.{count_at}
use Rattle.ft_types.specs.declared.position.Position.{Position}
use Rattle.log_join.specs.Stores.{StoreView, IsStore, opening_at}
use Rattle.closed_cut.specs.Chain.{LeadsTo}
use Rattle.closed_cut.specs.Position.{Avail, IsPosition, IsReached, base_of}
use Rattle.closed_cut.proofs.Chains.{term_above}
use Rattle.closed_cut.proofs.Unique.{one_end}
use Rattle.closed_cut.proofs.Walking.{one_same}
use Rattle.guest_image.specs.Image.{ImageContents}
use Rattle.guest_image.specs.Machine.{MachineState}
use Rattle.hart_replay.specs.declared.plans.PlannedLeg.{PlannedLeg}
use Rattle.hart_replay.specs.declared.fault.ReplayFault.{ReplayFault}
use Rattle.hart_replay.specs.declared.fault.ReplayFault.TheVariants.{Memory}
use Rattle.hart_replay.specs.GoingOn.{BeginsLeg, GoOnFrom}
use Rattle.hart_replay.specs.KeepingUp.{KeepsUp}
use Rattle.hart_replay.specs.Laws.{ArePlanned}
use Rattle.hart_replay.specs.Leading.{IsLegsFault}
use Rattle.hart_replay.specs.Plans.{BeginsAtBase, IsLeg, terms_of}
use Rattle.hart_replay.proofs.walking.Walk.{Leaves, ends_over}
use Rattle.warm_backup.specs.declared.stand.Stand.TheVariants.{Led}
use Rattle.warm_backup.specs.declared.work.Work.{Work}
use Rattle.warm_backup.specs.machinery.Growing.{HasFacts, IsNext}
use Rattle.warm_backup.specs.machinery.Working.{cut_leg, machine_in, HasAdvanced, HasGone, HasStood, IsAtEnds, IsBackup, IsRefused, IsSettled, IsUnderWay, IsUpToDate, LeadUp, MayGrowTo}
use Rattle.warm_backup.proofs.Onward.{all_last, at_ends, ends_anew, failed_on, leg_is, leg_kept, led_on, many_harts, plan, planned_on, terms_same, all_anew}

-- a later position of the term is inside what the store has
inside_next : (store : StoreView) → IsStore store → (p : Position) → IsPosition store p → (leg : PlannedLeg) → BeginsAtBase store leg → leg.term ≡ p.term →
    (avail : Avail store leg.term (count_at leg.base)) (hart : ℕ) → count_at p.counts hart ≤ avail.end hart
inside_next store rules p position leg begins term avail hart =
    let some = (term_above store p.term begins.opening rules (ap (opening_at store) (sym term) ∙ begins.opens)).1 in
    let leaves = (ends_over store p position some).leaves in
    let there : Leaves store leg.term (count_at p.counts) = subst (λ (t : ℕ). Leaves store t (count_at p.counts)) (sym term) leaves in
    let same : base_of there.opening ≡ count_at leg.base = ap count_at (ap (λ o. o.base) (one_same there.opens begins.opens) ∙ sym begins.base) in
    let reached = subst (λ (b : ℕ → ℕ). IsReached store leg.term b there.limit (count_at p.counts)) same there.reached in
    subst (λ (n : ℕ). count_at p.counts hart ≤ n) (one_end store leg.term (count_at leg.base) reached.avail avail hart) (reached.fits.within hart)

module _ (image : ImageContents) (store : StoreView) (rules : IsStore store) (front : List PlannedLeg) (old : Work) (was end : Position)
    (kept : IsBackup image store front (Led old) was) (position : IsPosition store end) (harts : length end.counts ≡ store.guest.harts)
    (may : MayGrowTo (Led old) end) where
  abbrev under : IsUnderWay store front old was.counts
  under = kept.stands

  pub straight : old.astray ≡ false
  straight = under.straight may.0

  settled_there : IsSettled old was.counts
  settled_there = under.settled straight

  abbrev up : LeadUp store front old
  up = under.led_up may.0

  pub up_to_date : IsUpToDate store old
  up_to_date = under.up_to_date may.0

  machine_is : machine_in old ≡ old.book.machine
  machine_is = rw straight refl

  -- as what was replayed with its last leg whole
  keeps_whole : KeepsUp image (front ++ old.leg ∷ []) old.book.machine
  keeps_whole =
      subst (λ (m : MachineState). KeepsUp image (front ++ old.leg ∷ []) m) machine_is
      (subst (λ (leg : PlannedLeg). KeepsUp image (front ++ leg ∷ []) (machine_in old)) settled_there.whole kept.keeps)

  begins_at_base : BeginsAtBase store old.leg
  begins_at_base = all_last (BeginsAtBase store) front old.leg up.bases

  -- ---- what going on requires

  pub settled : IsSettled old old.leg.ends
  settled = subst (λ (counts : List ℕ). IsSettled old counts) (sym settled_there.ends) settled_there

  pub at : IsAtEnds old
  at =
      record {
        harts = many_harts image front old.leg old.book.machine keeps_whole ∙ sym up_to_date.facts.many_ends;
        counts = at_ends image front old.leg old.book.machine keeps_whole;
        cut = (leg_kept image front old.leg old.book.machine keeps_whole).cut;
      }

  pub next : IsNext store old.leg end.counts
  next =
      record {
        harts = harts ∙ (sym up_to_date.facts.harts ∙ sym up_to_date.facts.many_ends);
        up = may.2;
        inside = inside_next store rules end position old.leg begins_at_base may.1;
      }

  -- ---- a leg that goes on from it

  module _ (leg : PlannedLeg) (facts : HasFacts store leg) (begins : BeginsLeg old.leg leg) (ends : leg.ends ≡ end.counts) where
    planned : ArePlanned store end (front ++ leg ∷ [])
    planned =
        planned_on store rules end position front old.leg leg old.leg.ends may.1 ends begins.term begins.base facts.start facts.edges facts.inputs facts.marks
        begins_at_base up.terms up.bases up.ends up.cuts up.edges up.inputs up.marks

    is_leg : IsLeg image.harts leg
    is_leg =
        subst (λ (n : ℕ). IsLeg n leg) (ap (λ g. g.harts) kept.guest)
        (leg_is store rules end position front old.leg leg old.leg.ends may.1 ends begins.term begins.base facts.start facts.edges facts.inputs facts.marks
        begins_at_base)

  -- ---- it went

  module _ (new : Work) (gone : HasGone store end.counts old new) (is_settled : IsSettled new end.counts) (is_straight : new.astray ≡ false) where
    abbrev legs_on : GoOnFrom (front ++ old.leg ∷ []) (front ++ new.leg ∷ [])
    legs_on = record { front = front; last = old.leg; same = front; next = new.leg; back = []; was = refl; is = refl; alike = refl; begins = gone.begins }

    new_leg : IsLeg image.harts new.leg
    new_leg = is_leg new.leg gone.facts.facts gone.begins gone.ends

    keeps_new : KeepsUp image (front ++ new.leg ∷ []) new.book.machine
    keeps_new =
        record {
          plan = plan image front old.leg new.leg old.book.machine keeps_whole new_leg gone.begins gone.facts.log;
          led = led_on image front old.leg new.leg old.book.machine keeps_whole new_leg gone.begins gone.facts.log new.book.machine gone.led;
        }

    keeps_there : KeepsUp image (front ++ cut_leg new end.counts ∷ []) (machine_in new)
    keeps_there =
        subst (λ (m : MachineState). KeepsUp image (front ++ cut_leg new end.counts ∷ []) m) (sym (rw is_straight refl))
        (subst (λ (leg : PlannedLeg). KeepsUp image (front ++ leg ∷ []) new.book.machine) (sym is_settled.whole) keeps_new)

    led_up : LeadUp store front new
    led_up =
        record {
          terms =
              subst (λ (t : ℕ). LeadsTo store 0 (terms_of (front ++ new.leg ∷ [])) t) (sym gone.begins.term)
              (subst (λ (ts : List ℕ). LeadsTo store 0 ts old.leg.term) (sym (terms_same old.leg new.leg gone.begins.term gone.begins.base front)) up.terms);
          bases =
              all_anew (BeginsAtBase store) front old.leg new.leg up.bases
              (record {
                opening = begins_at_base.opening;
                opens = ap (opening_at store) gone.begins.term ∙ begins_at_base.opens;
                base = gone.begins.base ∙ begins_at_base.base;
              });
          ends = ends_anew old.leg new.leg gone.begins.term gone.begins.base old.leg.ends new.leg.ends front refl up.ends;
          cuts = up.cuts;
          edges = up.edges;
          inputs = up.inputs;
          marks = up.marks;
        }

    pub has_advanced : HasAdvanced image store was end front (Led old) (sum end.counts - sum was.counts) front (Led new)
    has_advanced =
        record {
          kept =
              record {
                guest = kept.guest;
                keeps = keeps_there;
                stands = record { settled = λ e. is_settled; straight = λ e. is_straight; led_up = λ e. led_up; up_to_date = λ e. gone.facts };
              };
          planned =
              subst (λ (leg : PlannedLeg). ArePlanned store end (front ++ leg ∷ [])) (sym is_settled.whole)
              (planned new.leg gone.facts.facts gone.begins gone.ends);
          on = λ goes. refl;
          anew =
              λ no.
              absurd (no
              (subst (λ (leg : PlannedLeg). GoOnFrom (front ++ cut_leg old was.counts ∷ []) (front ++ leg ∷ [])) (sym is_settled.whole)
              (subst (λ (leg : PlannedLeg). GoOnFrom (front ++ leg ∷ []) (front ++ new.leg ∷ [])) (sym settled_there.whole) legs_on)));
        }

  -- ---- it did not

  module _ (new : Work) (machine : machine_in new ≡ machine_in old) (cut : cut_leg new old.leg.ends ≡ cut_leg old old.leg.ends)
      (anew : (new ≡ old) ⊎ ((new.astray ≡ true) × (new.lasts ≡ false))) (fault : ReplayFault) (refused : IsRefused store end.counts old fault) where
    cut_there : cut_leg new was.counts ≡ cut_leg old was.counts
    cut_there = subst (λ (counts : List ℕ). cut_leg new counts ≡ cut_leg old counts) settled_there.ends cut

    under_way : (new ≡ old) ⊎ ((new.astray ≡ true) × (new.lasts ≡ false)) → IsUnderWay store front new was.counts
    under_way (inl same) = subst (λ (w : Work). IsUnderWay store front w was.counts) (sym same) under
    under_way (inr (astray, ends)) =
        record {
          settled = λ e. absurd (true≢false (sym astray ∙ e));
          straight = λ e. absurd (true≢false (sym e ∙ ends));
          led_up = λ e. absurd (true≢false (sym e ∙ ends));
          up_to_date = λ e. absurd (true≢false (sym e ∙ ends));
        }

    cause : IsRefused store end.counts old fault → (fault ≡ Memory) ⊎ ((legs : List PlannedLeg) × ArePlanned store end legs × IsLegsFault image legs fault)
    cause (inl memory) = inl memory
    cause (inr (leg, facts, log, begins, ends, fails)) =
        inr (
          front ++ leg ∷ [],
          planned leg facts begins ends,
          failed_on image front old.leg leg old.book.machine keeps_whole (is_leg leg facts begins ends) begins log fault fails,
        )

    pub has_stood : HasStood image store was end front (Led old) fault front (Led new)
    has_stood =
        record {
          kept =
              record {
                guest = kept.guest;
                keeps =
                    subst (λ (m : MachineState). KeepsUp image (front ++ cut_leg new was.counts ∷ []) m) (sym machine)
                    (subst (λ (leg : PlannedLeg). KeepsUp image (front ++ leg ∷ []) (machine_in old)) (sym cut_there) kept.keeps);
                stands = under_way anew;
              };
          same_legs = ap (λ (leg : PlannedLeg). front ++ leg ∷ []) cut_there;
          same_machine = machine;
          cause = cause refused;
        }
