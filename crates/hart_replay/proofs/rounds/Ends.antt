-- Where a book of a leg ends: at the leg's ends, or stuck.
use Rattle.std.proofs.lemmas.Result.{IfOk-weaker, IfErr-weaker}
use Rattle.input_log.specs.declared.Input.{Input}
use Rattle.std.proofs.Common.{◌≡◌, ℕ, IfOk, IfErr, Result, ◌+◌, ◌<◌, ◌≤◌, ◌⊎◌, List, [], ◌∷◌, length, Bool, true, false, Some, sym, ap, subst, ◌∙◌, inl, inr}
use Rattle.std.proofs.Common.{arith}
use Rattle.std.proofs.Math.Path.{fun_ext}
use Rattle.std.proofs.lemmas.Bool.{cases_lt}
use Rattle.ft_types.specs.Counts.{count_at}
use Rattle.interleaving.specs.Log.{Edge, Begins, HasUnmet, bump, counts_after, turns_of}
use Rattle.interleaving.proofs.Put.{same_or_not, put_same, bump_other}
use Rattle.edge_log.specs.EdgeLog.{edges_of}
use Rattle.guest_image.specs.Machine.{MachineState}
use Rattle.book_modes.specs.declared.mode.Leg.{Leg}
use Rattle.hart_lease.specs.Runs.{run_of, counts_of, harts_of, BeginsSchedule}
use Rattle.page_book.specs.Books.{BookView}
use Rattle.hart_replay.specs.declared.plans.PlannedLeg.{PlannedLeg}
use Rattle.hart_replay.specs.declared.fault.ReplayFault.{ReplayFault}
use Rattle.hart_replay.specs.declared.fault.ReplayFault.TheVariants.{Cyclic, HaltedInside, OtherGuest, Memory}
use Rattle.hart_replay.specs.Plans.{IsLeg, log_of}
use Rattle.hart_replay.specs.Replays.{leg_turns, LegLeads, is_halted, GetsStuck}
use Rattle.hart_replay.specs.Leading.{IsBelow, HasStopped, ComesTo, ComesShort, IsLegFault}
use Rattle.hart_lease.proofs.journals.Sizes.{counts_ran}

-- a beginning goes no further than the cut
begun_within : (edges : List Edge) (cut now : ℕ → ℕ) (order : List ℕ) → Begins edges cut now order → ((hart : ℕ) → now hart ≤ cut hart) →
    (hart : ℕ) → counts_after now order hart ≤ cut hart
begun_within edges cut now [] begins fits = fits
begun_within edges cut now (next ∷ order) begins fits =
    begun_within edges cut (bump now next) order begins.1 within
  where
    within : (hart : ℕ) → bump now next hart ≤ cut hart
    within hart =
        elim (same_or_not next hart) [
          | inl same ↦
              let f : bump now next hart ≡ now next + 1 = put_same now next hart (now next + 1) same in
              let g : cut next ≡ cut hart = ap cut same in
              let lt : now next < cut next = begins.0.0 in
              omega arith
          | inr ne ↦
              let f : bump now next hart ≡ now hart = bump_other now next hart ne in
              let g : now hart ≤ cut hart = fits hart in
              omega arith
        ]

-- ---- looking for a hart that has not come to its end

-- of the first harts one waits, and none of those below their end is halted; or each is at its end
abbrev pub Looked : Bool → ℕ → MachineState → List ℕ → Type 0
Looked true harts m ends = ((hart : ℕ) × IsBelow m ends hart) × ((hart : ℕ) → hart < harts → IsBelow m ends hart → is_halted m hart ≡ false)
Looked false harts m ends = (hart : ℕ) → hart < harts → count_at ends hart ≤ counts_of m hart

awake : (waits : Bool) (n : ℕ) (m : MachineState) (ends : List ℕ) → Looked waits n m ends → (hart : ℕ) → hart < n → IsBelow m ends hart →
    is_halted m hart ≡ false
awake true n m ends p hart lt below = p.1 hart lt below
awake false n m ends p hart lt below = let le = p hart lt in absurd (omega (arith, le, below))

pub looked_none : (m : MachineState) (ends : List ℕ) → Looked false 0 m ends
looked_none m ends = λ hart lt. absurd (omega (arith, lt))

-- the next one is at its end
pub looked_past : (waits : Bool) (n : ℕ) (m : MachineState) (ends : List ℕ) → Looked waits n m ends → count_at ends n ≤ counts_of m n →
    Looked waits (n + 1) m ends
looked_past true n m ends p past = (
  p.0,
  λ hart lt below. elim (cases_lt hart n) [
    | inl earlier ↦ p.1 hart earlier below
    | inr last ↦
        (let is : hart ≡ n = omega (arith, lt, last) in
        let le : count_at ends hart ≤ counts_of m hart = subst (λ (k : ℕ). count_at ends k ≤ counts_of m k) (sym is) past in
        absurd (omega (arith, le, below)))
  ],
)
looked_past false n m ends p past = λ hart lt. elim (cases_lt hart n) [
  | inl earlier ↦ p hart earlier
  | inr last ↦ (let is : n ≡ hart = omega (arith, lt, last) in subst (λ (k : ℕ). count_at ends k ≤ counts_of m k) is past)
]

-- the next one waits
pub looked_waits : (waits : Bool) (n : ℕ) (m : MachineState) (ends : List ℕ) → Looked waits n m ends → IsBelow m ends n → is_halted m n ≡ false →
    Looked true (n + 1) m ends
looked_waits waits n m ends p below runs = (
  (n, below),
  λ hart lt less. elim (cases_lt hart n) [
    | inl earlier ↦ awake waits n m ends p hart earlier less
    | inr last ↦ (let is : n ≡ hart = omega (arith, lt, last) in subst (λ (k : ℕ). is_halted m k ≡ false) is runs)
  ],
)

-- the next one is halted
pub looked_halted : (waits : Bool) (n count : ℕ) (m : MachineState) (ends : List ℕ) → Looked waits n m ends → count ≡ counts_of m n → IsBelow m ends n →
    is_halted m n ≡ true → ComesShort m ends (HaltedInside n count)
looked_halted waits n count m ends p is below halted = (is, below, halted, λ hart lt less. awake waits n m ends p hart lt less)

-- none is left
pub looked_all : (n : ℕ) (m : MachineState) (ends counts : List ℕ) → n ≡ length m.harts → length counts ≡ length m.harts →
    ((hart : ℕ) → count_at counts hart ≡ counts_of m hart) →
    Looked true n m ends →
    ComesShort m ends (Cyclic counts)
looked_all n m ends counts all harts are p = (harts, are, p.0, λ hart lt less. p.1 hart (omega (arith, lt, all)) less)

-- ---- from the book to the leg

module _ (start : MachineState) (leg : PlannedLeg) (is_leg : IsLeg (length start.harts) leg) (base : (hart : ℕ) → count_at leg.base hart ≡ counts_of start hart)
    (b : BookView Leg) (stopped : HasStopped start leg b) (order : List ℕ) (run : run_of start (turns_of (log_of leg).inputs (counts_of start) order) ≡ Some
    b.machine)
    (begins : Begins (edges_of leg.edges) (count_at leg.ends) (counts_of start) order) where
  same_base : count_at leg.base ≡ counts_of start
  same_base = fun_ext base

  begins_here : Begins (log_of leg).edges (count_at leg.ends) (log_of leg).start order
  begins_here = subst (λ (now : ℕ → ℕ). Begins (edges_of leg.edges) (count_at leg.ends) now order) (sym same_base) begins

  run_here : run_of start (leg_turns leg order) ≡ Some b.machine
  run_here = ap (λ (now : ℕ → ℕ). run_of start (turns_of (log_of leg).inputs now order)) same_base ∙ run

  counted : counts_after (count_at leg.base) order ≡ counts_of b.machine
  counted = ap (λ (now : ℕ → ℕ). counts_after now order) same_base ∙ sym (counts_ran start b.machine (log_of leg).inputs order run)

  -- a hart that is below its end is there
  is_there : (hart : ℕ) → counts_of b.machine hart < count_at leg.ends hart → hart < length b.machine.harts
  is_there hart below =
      elim (cases_lt hart (length start.harts)) [
        | inl less ↦ omega (arith, less, stopped.leading.harts)
        | inr over ↦ let none = is_leg.no_others hart over in absurd (omega (arith, none, below))
      ]

  -- all are at their ends
  pub at_ends : (n : MachineState) → ComesTo b.machine leg.ends n → LegLeads leg start n
  at_ends n (same, reached) =
      subst (λ (x : MachineState). LegLeads leg start x) (sym same) (order, record { begins = begins_here; complete = complete }, run_here)
    where
      complete : (hart : ℕ) → counts_after (count_at leg.base) order hart ≡ count_at leg.ends hart
      complete hart =
          let below = begun_within (edges_of leg.edges) (count_at leg.ends) (count_at leg.base) order begins_here is_leg.cut.from_start hart in
          let now : counts_after (count_at leg.base) order hart ≡ counts_of b.machine hart = ap (λ (n : ℕ → ℕ). n hart) counted in
          elim (cases_lt (counts_of b.machine hart) (count_at leg.ends hart)) [
            | inl less ↦ let le = reached hart (is_there hart less) in absurd (omega (arith, le, less))
            | inr past ↦ omega (arith, below, now, past)
          ]

  below_now : (hart : ℕ) → counts_after (count_at leg.base) order hart < count_at leg.ends hart → counts_of b.machine hart < count_at leg.ends hart
  below_now hart less = subst (λ (n : ℕ → ℕ). n hart < count_at leg.ends hart) counted less

  held_here : (hart : ℕ) → counts_after (count_at leg.base) order hart < count_at leg.ends hart →
      (is_halted b.machine hart ≡ true) ⊎ HasUnmet (edges_of leg.edges) (counts_after (count_at leg.base) order) hart
  held_here hart less =
      let below = below_now hart less in
      let mode = stopped.leading.mode in
      elim (stopped.held hart (is_there hart below)) [
        | inl past ↦
            let le : count_at leg.ends hart ≤ counts_of b.machine hart =
            subst (λ (l : Leg). count_at l.ends hart ≤ counts_of b.machine hart) mode past in
            absurd (omega (arith, le, below))
        | inr other ↦ elim other [
          | inl halted ↦ inl halted
          | inr unmet ↦
              inr (subst (λ (n : ℕ → ℕ). HasUnmet (edges_of leg.edges) n hart) (sym counted)
              (subst (λ (l : Leg). HasUnmet (edges_of l.edges) (counts_of b.machine) hart) mode unmet))
        ]
      ]

  gets_stuck : (hart : ℕ) → IsBelow b.machine leg.ends hart → GetsStuck leg start order b.machine
  gets_stuck hart below =
      record {
        begins = begins_here;
        run = run_here;
        stuck =
            record {
              below = (hart, subst (λ (n : ℕ → ℕ). n hart < count_at leg.ends hart) (sym counted) below);
              held = held_here;
            };
      }

  -- some are not
  pub falls_short : (fault : ReplayFault) → ComesShort b.machine leg.ends fault → IsLegFault leg start fault
  falls_short (Cyclic counts) (harts, are, (hart, below), runs) =
      record {
        harts = harts ∙ stopped.leading.harts;
        order = order;
        machine = b.machine;
        stuck = gets_stuck hart below;
        counts_are = λ k. are k ∙ sym (ap (λ (n : ℕ → ℕ). n k) counted);
        awake = λ k less.
            let under : counts_of b.machine k < count_at leg.ends k = subst (λ (n : ℕ). n < count_at leg.ends k) (are k) less in
            runs k (is_there k under) under;
      }
  falls_short (HaltedInside hart count) (is, below, halted, least) =
      record {
        order = order;
        machine = b.machine;
        stuck = gets_stuck hart below;
        count_is = is ∙ sym (ap (λ (n : ℕ → ℕ). n hart) counted);
        below = subst (λ (n : ℕ). n < count_at leg.ends hart) (sym is) below;
        halted = halted;
        least = λ other lt less. least other lt (below_now other less);
      }
  falls_short OtherGuest h = absurd h
  falls_short Memory h = tt

-- what holds of a book's run, of its leg
module _ (start : MachineState) (leg : PlannedLeg) (is_leg : IsLeg (length start.harts) leg) (base : (hart : ℕ) → count_at leg.base hart ≡ counts_of start hart)
    (b : BookView Leg) (stopped : HasStopped start leg b) (heard : ℕ → ℕ → List Input) (heard_is : heard ≡ (log_of leg).inputs)
    (run : run_of b.start (turns_of heard (counts_of b.start) (harts_of b.journal)) ≡ Some b.machine)
    (begins : BeginsSchedule (edges_of b.mode.edges) b.mode.ends b.start b.journal) where
  run_is : run_of start (turns_of (log_of leg).inputs (counts_of start) (harts_of b.journal)) ≡ Some b.machine
  run_is =
      subst (λ (inputs : ℕ → ℕ → List Input). run_of start (turns_of inputs (counts_of start) (harts_of b.journal)) ≡ Some b.machine) heard_is
      (subst (λ (m : MachineState). run_of m (turns_of heard (counts_of m) (harts_of b.journal)) ≡ Some b.machine) stopped.leading.start run)

  begins_is : Begins (edges_of leg.edges) (count_at leg.ends) (counts_of start) (harts_of b.journal)
  begins_is =
      subst (λ (l : Leg). Begins (edges_of l.edges) (count_at l.ends) (counts_of start) (harts_of b.journal)) stopped.leading.mode
      (subst (λ (m : MachineState). BeginsSchedule (edges_of b.mode.edges) b.mode.ends m b.journal) stopped.leading.start begins)

  pub outcome_of : (m : MachineState) (r : Result MachineState ReplayFault) → m ≡ b.machine → IfOk r (λ n. ComesTo m leg.ends n) →
      IfOk r (λ n. LegLeads leg start n)
  outcome_of m r same =
      IfOk-weaker r (λ n. ComesTo m leg.ends n) (λ n. LegLeads leg start n)
      (λ n to. at_ends start leg is_leg base b stopped (harts_of b.journal) run_is begins_is n (subst (λ (x : MachineState). ComesTo x leg.ends n) same to))

  pub fault_of : (m : MachineState) (r : Result MachineState ReplayFault) → m ≡ b.machine → IfErr r (λ f. ComesShort m leg.ends f) →
      IfErr r (λ f. IsLegFault leg start f)
  fault_of m r same =
      IfErr-weaker r (λ f. ComesShort m leg.ends f) (λ f. IsLegFault leg start f)
      (λ f short. falls_short start leg is_leg base b stopped (harts_of b.journal) run_is begins_is f (subst (λ (x : MachineState). ComesShort x leg.ends f)
      same short))
