-- A backup that went to a position by the plan of its whole store.
use Rattle.std.proofs.Common.{◌≡◌, ◌↔◌, Bool, IsTrue, sum, ◌<◌, ◌≤◌, ◌-◌, ◌++◌, ◌∷◌, ℕ, List, [], All, length, take, refl, sym, ap, subst, ◌∙◌, arith, le_refl, length-append}
use Rattle.std.proofs.lemmas.List.{get_or_past}
use Rattle.ft_types.specs.Counts.{count_at}
use Rattle.ft_types.specs.declared.position.Position.{Position}
use Rattle.edge_log.specs.declared.Edge.{Edge}
use Rattle.edge_log.specs.EdgeLog.{row_of}
use Rattle.input_log.specs.declared.Input.{Input}
use Rattle.input_log.specs.Inputs.{inputs_of}
use Rattle.log_join.specs.Stores.{StoreView, IsStore}
use Rattle.book_modes.specs.declared.mode.Leg.{Leg}
use Rattle.closed_cut.specs.Chain.{LeadsTo}
use Rattle.closed_cut.proofs.Unique.{one_end}
use Rattle.guest_image.specs.Image.{ImageContents, guest_of}
use Rattle.hart_replay.specs.declared.plans.PlannedLeg.{PlannedLeg}
use Rattle.hart_replay.specs.Facts.{EndsInside, HasEdges, HasInputs, HasMarks}
use Rattle.hart_replay.specs.GoingOn.{GoOnFrom}
use Rattle.hart_replay.specs.Laws.{ArePlanned}
use Rattle.hart_replay.specs.Leading.{leg_of}
use Rattle.hart_replay.specs.Plans.{EndAt, IsLeg, IsPlan, terms_of}
use Rattle.hart_replay.specs.Replays.{IsOutcome}
use Rattle.warm_backup.specs.declared.stand.Stand.{Stand}
use Rattle.warm_backup.specs.declared.stand.Stand.TheVariants.{Boot, Led}
use Rattle.warm_backup.specs.declared.work.Work.{Work}
use Rattle.warm_backup.specs.machinery.Growing.{HasFacts, IsBehind}
use Rattle.warm_backup.specs.machinery.Working.{cut_leg, legs_of, machine_in, HasAdvanced, HasBegun, IsBackup, IsLedTo, IsSettled, IsUpToDate, LeadUp}
use Rattle.warm_backup.proofs.Cuts.{edges_before, inputs_before}
use Rattle.warm_backup.proofs.Gone.{whole_below}
use Rattle.warm_backup.proofs.Onward.{all_front, all_last}

-- the last leg is of the position's term, and ends at its counts
last_term : (store : StoreView) (front : List PlannedLeg) (leg : PlannedLeg) (term top : ℕ) → LeadsTo store term (terms_of (front ++ leg ∷ [])) top → leg.term ≡ top
last_term store [] leg term top (parent, is) = is
last_term store (first ∷ front) leg term top (parent, rest) = last_term store front leg first.term top rest

last_ends : (counts : List ℕ) (front : List PlannedLeg) (leg : PlannedLeg) → EndAt counts (front ++ leg ∷ []) → leg.ends ≡ counts
last_ends counts [] leg at = at
last_ends counts (first ∷ []) leg at = at.1
last_ends counts (first ∷ second ∷ front) leg at = last_ends counts (second ∷ front) leg at.1

-- the legs but the last
taken : (front : List PlannedLeg) (leg : PlannedLeg) → take (length (front ++ leg ∷ []) - 1) (front ++ leg ∷ []) ≡ front
taken front leg =
    let many : length (front ++ leg ∷ []) - 1 ≡ length front = let all = length-append front (leg ∷ []) in omega (arith, all) in
    ap (λ (n : ℕ). take n (front ++ leg ∷ [])) many ∙ go front
  where
    go : (front : List PlannedLeg) → take (length front) (front ++ leg ∷ []) ≡ front
    go [] = refl
    go (x ∷ front) = ap (λ (xs : List PlannedLeg). x ∷ xs) (go front)

-- nothing is below 0
none_below_zero : {A : Type 0} (at : A → ℕ) (row : List A) (end : ℕ) → All (λ x. at x < end) row → end ≡ 0 → row ≡ []
none_below_zero at [] end all is = refl
none_below_zero at (x ∷ row) end all is = let less : at x < end = all 0 x (omega arith) in absurd (omega (arith, less, is))

module _ (image : ImageContents) (store : StoreView) (rules : IsStore store) (end : Position) (harts : length end.counts ≡ store.guest.harts)
    (guest : store.guest ≡ guest_of image) (front : List PlannedLeg) (w : Work) (planned : ArePlanned store end (front ++ w.leg ∷ []))
    (plan : IsPlan store.guest (front ++ w.leg ∷ [])) (outcome : IsOutcome image (front ++ w.leg ∷ []) w.book.machine) (begun : HasBegun w) where
  abbrev leg : PlannedLeg
  leg = w.leg

  is_leg : IsLeg store.guest.harts leg
  is_leg = all_last (IsLeg store.guest.harts) front leg plan.each

  ends_are : leg.ends ≡ end.counts
  ends_are = last_ends end.counts front leg planned.ends

  cuts : EndsInside store leg
  cuts = all_last (EndsInside store) front leg planned.cuts

  facts : HasFacts store leg
  facts =
      record {
        start = is_leg.start;
        harts = is_leg.harts;
        many_ends = ap length ends_are ∙ (harts ∙ sym is_leg.harts);
        inside =
            λ avail hart.
            subst (λ (n : ℕ). count_at leg.ends hart ≤ n) (one_end store leg.term (count_at leg.base) cuts.avail avail hart) (cuts.within hart);
        edges = all_last (HasEdges store) front leg planned.edges;
        inputs = all_last (HasInputs store) front leg planned.inputs;
        marks = all_last (HasMarks store) front leg planned.marks;
      }

  no_end : (hart : ℕ) → length leg.base ≤ hart → count_at leg.ends hart ≡ 0
  no_end hart le = let many = facts.many_ends in get_or_past leg.ends hart 0 (omega (arith, le, many))

  obeyed : IsBehind leg (leg_of leg)
  obeyed =
      record {
        harts = ap length is_leg.start;
        start = λ hart. subst (λ (s : List ℕ). count_at s hart ≤ count_at leg.ends hart) (sym is_leg.start) (is_leg.cut.from_start hart);
        rows =
            λ hart le.
            none_below_zero (λ (e : Edge). e.at) (row_of leg.edges hart) (count_at leg.ends hart)
            (edges_before store rules leg facts.edges hart (begun.log.own hart)) (no_end hart le);
        inputs =
            λ hart le.
            none_below_zero (λ (x : ℕ × Input). x.0) (inputs_of leg.inputs hart) (count_at leg.ends hart)
            (inputs_before store rules leg facts.inputs hart) (no_end hart le);
      }

  up_to_date : IsUpToDate store w
  up_to_date =
      record {
        facts = facts;
        walks =
            λ hart less.
            rw (begun.walks hart less) (record { goes = refl; within = is_leg.cut.from_start hart });
        log = begun.log;
        rows = begun.rows;
        done =
            record {
              harts = ap length begun.start ∙ facts.many_ends;
              start =
                  λ hart.
                  subst (λ (s : List ℕ). count_at s hart ≤ count_at leg.ends hart) (sym begun.start) (le_refl (count_at leg.ends hart));
              rows = λ hart le. begun.nothing.rows hart;
              inputs = λ hart le. begun.nothing.inputs hart;
            };
        obeyed = subst (λ (l : Leg). IsBehind leg l) (sym begun.obeyed) obeyed;
      }

  whole : cut_leg w end.counts ≡ leg
  whole =
      subst (λ (counts : List ℕ). cut_leg w counts ≡ leg) ends_are (whole_below store rules leg facts begun.log begun.rows)

  settled : IsSettled w end.counts
  settled = record { idle = begun.idle; ends = ends_are; whole = whole }

  led_up : LeadUp store front w
  led_up =
      record {
        terms =
            subst (λ (t : ℕ). LeadsTo store 0 (terms_of (front ++ leg ∷ [])) t) (sym (last_term store front leg 0 end.term planned.terms)) planned.terms;
        bases = planned.bases;
        ends = subst (λ (counts : List ℕ). EndAt counts (front ++ leg ∷ [])) (sym ends_are) planned.ends;
        cuts = all_front (EndsInside store) front leg planned.cuts;
        edges = all_front (HasEdges store) front leg planned.edges;
        inputs = all_front (HasInputs store) front leg planned.inputs;
        marks = all_front (HasMarks store) front leg planned.marks;
      }

  machine_is : machine_in w ≡ w.book.machine
  machine_is = rw begun.straight refl

  pub legs_are : front ++ cut_leg w end.counts ∷ [] ≡ front ++ leg ∷ []
  legs_are = ap (λ (l : PlannedLeg). front ++ l ∷ []) whole

  pub stands_anew : IsBackup image store front (Led w) end
  stands_anew =
      record {
        guest = guest;
        keeps =
            rw (legs_are, machine_is)
            (record { plan = rw (sym guest) plan; led = outcome });
        stands =
            record { settled = λ e. settled; straight = λ e. begun.straight; led_up = λ e. led_up; up_to_date = λ e. up_to_date };
      }

-- whatever the legs led to
module _ (image : ImageContents) (store : StoreView) (rules : IsStore store) (end : Position) (harts : length end.counts ≡ store.guest.harts)
    (guest : store.guest ≡ guest_of image) (legs : List PlannedLeg) (planned : ArePlanned store end legs) (plan : IsPlan store.guest legs) where
  abbrev front : List PlannedLeg
  front = take (length legs - 1) legs

  module _ (w : Work) (first : List PlannedLeg) (parts : legs ≡ first ++ w.leg ∷ []) (outcome : IsOutcome image legs w.book.machine) (begun : HasBegun w) where
    front_is : front ≡ first
    front_is = ap (λ (xs : List PlannedLeg). take (length xs - 1) xs) parts ∙ taken first w.leg

    planned_there : ArePlanned store end (first ++ w.leg ∷ [])
    planned_there = subst (λ (xs : List PlannedLeg). ArePlanned store end xs) parts planned

    plan_there : IsPlan store.guest (first ++ w.leg ∷ [])
    plan_there = subst (λ (xs : List PlannedLeg). IsPlan store.guest xs) parts plan

    outcome_there : IsOutcome image (first ++ w.leg ∷ []) w.book.machine
    outcome_there = subst (λ (xs : List PlannedLeg). IsOutcome image xs w.book.machine) parts outcome

    backup_led : IsBackup image store front (Led w) end
    backup_led =
        subst (λ (xs : List PlannedLeg). IsBackup image store xs (Led w) end) (sym front_is)
        (stands_anew image store rules end harts guest first w planned_there plan_there outcome_there begun)

    legs_led : legs_of front (Led w) end.counts ≡ legs
    legs_led =
        ap (λ (xs : List PlannedLeg). xs ++ cut_leg w end.counts ∷ []) front_is ∙
        (legs_are image store rules end harts guest first w planned_there plan_there outcome_there begun ∙ sym parts)

  pub backup_anew : (stand : Stand) → IsLedTo image legs stand → IsBackup image store front stand end
  backup_anew (Boot m) (none, outcome) =
      let nothing : front ≡ [] = ap (λ (xs : List PlannedLeg). take (length xs - 1) xs) none in
      record {
        guest = guest;
        keeps =
            rw nothing
            (record {
              plan = subst (λ (xs : List PlannedLeg). IsPlan (guest_of image) xs) none (rw (sym guest) plan);
              led = subst (λ (xs : List PlannedLeg). IsOutcome image xs m) none outcome;
            });
        stands = nothing;
      }
  backup_anew (Led w) (first, parts, outcome, begun) = backup_led w first parts outcome begun

  pub legs_anew : (stand : Stand) → IsLedTo image legs stand → legs_of front stand end.counts ≡ legs
  legs_anew (Boot m) (none, outcome) = ap (λ (xs : List PlannedLeg). take (length xs - 1) xs) none ∙ sym none
  legs_anew (Led w) (first, parts, outcome, begun) = legs_led w first parts outcome begun

  -- so it went there
  pub advanced_anew : (was : Position) (before : List PlannedLeg) (stood stand : Stand) → IsLedTo image legs stand → (on : Bool) (steps : ℕ) →
      IsTrue on ↔ GoOnFrom (legs_of before stood was.counts) legs → (IsTrue on → steps ≡ sum end.counts - sum was.counts) →
      ((IsTrue on → ⊥) → steps ≡ sum end.counts) → HasAdvanced image store was end before stood steps front stand
  advanced_anew was before stood stand is on steps tells steps_on steps_anew =
      let same = legs_anew stand is in
      record {
        kept = backup_anew stand is;
        planned = subst (λ (xs : List PlannedLeg). ArePlanned store end xs) (sym same) planned;
        on = λ goes. steps_on (tells.1 (subst (λ (xs : List PlannedLeg). GoOnFrom (legs_of before stood was.counts) xs) same goes));
        anew =
            λ no. steps_anew (λ yes. no (subst (λ (xs : List PlannedLeg). GoOnFrom (legs_of before stood was.counts) xs) (sym same) (tells.0 yes)));
      }
