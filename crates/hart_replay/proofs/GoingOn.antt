-- A leg that goes on from where its harts have come to.
use Rattle.std.proofs.Common.{◌≡◌, ◌<◌, ◌≤◌, ◌+◌, ◌++◌, ℕ, List, [], ◌∷◌, length, filter, get_or, Option, Some, Result, IfOk, IfErr, Contains, refl}
use Rattle.std.proofs.Common.{sym, ap, subst, ◌∙◌, arith, le_trans, lt-ltb, nat_lt, true, inl, inr}
use Rattle.std.proofs.Math.Path.{fun_ext}
use Rattle.std.proofs.lemmas.Bool.{cases_lt}
use Rattle.std.proofs.lemmas.Result.{IfOk-weaker, IfErr-weaker}
use Rattle.ft_types.specs.Counts.{count_at}
use Rattle.interleaving.specs.Log as theory
use Rattle.interleaving.specs.Log.{Begins, bump, counts_after, turns_of}
use Rattle.interleaving.specs.Stored.{run_from}
use Rattle.ft_types.specs.declared.names.TheConstants.{HART_LIMIT}
use Rattle.edge_log.specs.declared.Edge.{Edge}
use Rattle.edge_log.specs.EdgeLog.{IsLog, edges_of, edge_as, row_of}
use Rattle.edge_log.proofs.Logs.{in_row, to_edges}
use Rattle.input_log.specs.declared.Input.{Input}
use Rattle.input_log.specs.Inputs.{inputs_of, inputs_at}
use Rattle.rv32_hart.specs.Hardware.{hardware}
use Rattle.guest_image.specs.Machine.{MachineState}
use Rattle.hart_lease.specs.Runs.{run_of, counts_of, harts_of, BeginsSchedule}
use Rattle.hart_lease.proofs.journals.Runs.{run_from-append}
use Rattle.hart_lease.proofs.journals.GoingOn.{turns_of-append}
use Rattle.hart_lease.proofs.journals.Sizes.{IsAsLarge, as_large, counts_ran}
use Rattle.book_modes.specs.declared.mode.Leg.{Leg}
use Rattle.page_book.specs.Books.{BookView}
use Rattle.lease_rounds.proofs.Onward.{heard_before}
use Rattle.hart_replay.specs.declared.plans.PlannedLeg.{PlannedLeg}
use Rattle.hart_replay.specs.declared.fault.ReplayFault.{ReplayFault}
use Rattle.hart_replay.specs.Plans.{IsLeg, log_of}
use Rattle.hart_replay.specs.Replays.{LegLeads, leg_turns}
use Rattle.hart_replay.specs.Leading.{HasStopped, ComesTo, ComesShort, IsLegFault}
use Rattle.hart_replay.proofs.honesty.Primaries.{passed, passing}
use Rattle.hart_replay.proofs.honesty.Schedules.{begins_too, same_turns}
use Rattle.hart_replay.proofs.rounds.Ends.{at_ends, falls_short}
use Rattle.hart_replay.specs.machinery.Going.{HasCome, LeadsOn, FailsOn}
use Rattle.hart_replay.specs.GoingOn.{BeginsLeg}

-- ---- one order after another

begins_append : (edges : List theory.Edge) (cut now : ℕ → ℕ) (order rest : List ℕ) → Begins edges cut now order →
    Begins edges cut (counts_after now order) rest → Begins edges cut now (order ++ rest)
begins_append edges cut now [] rest first second = second
begins_append edges cut now (hart ∷ order) rest first second =
    (first.0, begins_append edges cut (bump now hart) order rest first.1 second)

module _ (leg : PlannedLeg) (now : MachineState) (b : BookView Leg) (stopped : HasStopped now leg b) (order : List ℕ)
    (run : run_of now (turns_of (log_of leg).inputs (counts_of now) order) ≡ Some b.machine)
    (begins : Begins (edges_of leg.edges) (count_at leg.ends) (counts_of now) order) (m : MachineState) (come : HasCome leg m now) where
  large : IsAsLarge m now
  large = as_large m now (leg_turns leg come.order) come.run

  base : count_at leg.base ≡ counts_of m
  base = fun_ext come.base

  came : run_of m (turns_of (log_of leg).inputs (counts_of m) come.order) ≡ Some now
  came = ap (λ (c : ℕ → ℕ). run_of m (turns_of (log_of leg).inputs c come.order)) (sym base) ∙ come.run

  counted : counts_of now ≡ counts_after (counts_of m) come.order
  counted = counts_ran m now (log_of leg).inputs come.order came

  whole_begins : Begins (edges_of leg.edges) (count_at leg.ends) (counts_of m) (come.order ++ order)
  whole_begins =
      begins_append (edges_of leg.edges) (count_at leg.ends) (counts_of m) come.order order
      (subst (λ (c : ℕ → ℕ). Begins (edges_of leg.edges) (count_at leg.ends) c come.order) base come.begins)
      (subst (λ (c : ℕ → ℕ). Begins (edges_of leg.edges) (count_at leg.ends) c order) counted begins)

  whole_run : run_of m (turns_of (log_of leg).inputs (counts_of m) (come.order ++ order)) ≡ Some b.machine
  whole_run =
      let size = length m.pages in
      let front = turns_of (log_of leg).inputs (counts_of m) come.order in
      let back = turns_of (log_of leg).inputs (counts_after (counts_of m) come.order) order in
      ap (run_from (hardware size) (Some m)) (turns_of-append (log_of leg).inputs (counts_of m) come.order order)
      ∙ run_from-append (hardware size) (Some m) front back
      ∙ ap (λ (o : Option MachineState). run_from (hardware size) o back) came
      ∙ ap (λ (c : ℕ → ℕ). run_from (hardware size) (Some now) (turns_of (log_of leg).inputs c order)) (sym counted)
      ∙ ap (λ (n : ℕ). run_from (hardware n) (Some now) (turns_of (log_of leg).inputs (counts_of now) order)) (sym large.pages)
      ∙ run

  -- the book, as if it had begun where the leg does
  abbrev whole : BookView Leg
  whole = record b { start = m }

  stopped_whole : HasStopped m leg (record b { start = m })
  stopped_whole =
      record {
        leading =
            record { start = refl; mode = stopped.leading.mode; idle = stopped.leading.idle; harts = stopped.leading.harts ∙ large.harts };
        held = stopped.held;
      }

  pub to_ends : (n : MachineState) → ComesTo b.machine leg.ends n → LegLeads leg m n
  to_ends = at_ends m leg come.is_leg come.base whole stopped_whole (come.order ++ order) whole_run whole_begins

  pub short_of_ends : (fault : ReplayFault) → ComesShort b.machine leg.ends fault → IsLegFault leg m fault
  short_of_ends = falls_short m leg come.is_leg come.base whole stopped_whole (come.order ++ order) whole_run whole_begins

-- what holds of a book's run, of its leg
module _ (now : MachineState) (leg : PlannedLeg) (b : BookView Leg) (stopped : HasStopped now leg b) (heard : ℕ → ℕ → List Input)
    (heard_is : heard ≡ (log_of leg).inputs) (run : run_of b.start (turns_of heard (counts_of b.start) (harts_of b.journal)) ≡ Some b.machine)
    (begins : BeginsSchedule (edges_of b.mode.edges) b.mode.ends b.start b.journal) where
  run_is : run_of now (turns_of (log_of leg).inputs (counts_of now) (harts_of b.journal)) ≡ Some b.machine
  run_is =
      subst (λ (inputs : ℕ → ℕ → List Input). run_of now (turns_of inputs (counts_of now) (harts_of b.journal)) ≡ Some b.machine) heard_is
      (subst (λ (m : MachineState). run_of m (turns_of heard (counts_of m) (harts_of b.journal)) ≡ Some b.machine) stopped.leading.start run)

  begins_is : Begins (edges_of leg.edges) (count_at leg.ends) (counts_of now) (harts_of b.journal)
  begins_is =
      subst (λ (l : Leg). Begins (edges_of l.edges) (count_at l.ends) (counts_of now) (harts_of b.journal)) stopped.leading.mode
      (subst (λ (m : MachineState). BeginsSchedule (edges_of b.mode.edges) b.mode.ends m b.journal) stopped.leading.start begins)

  pub leads_on : (m : MachineState) (r : Result MachineState ReplayFault) → m ≡ b.machine → IfOk r (λ n. ComesTo m leg.ends n) →
      IfOk r (λ n. LeadsOn leg now n)
  leads_on m r same =
      IfOk-weaker r (λ n. ComesTo m leg.ends n) (λ n. LeadsOn leg now n)
      (λ n to found come. to_ends leg now b stopped (harts_of b.journal) run_is begins_is found come n
      (subst (λ (x : MachineState). ComesTo x leg.ends n) same to))

  pub fails_on : (m : MachineState) (r : Result MachineState ReplayFault) → m ≡ b.machine → IfErr r (λ f. ComesShort m leg.ends f) →
      IfErr r (λ f. FailsOn leg now f)
  fails_on m r same =
      IfErr-weaker r (λ f. ComesShort m leg.ends f) (λ f. FailsOn leg now f)
      (λ f short found come. short_of_ends leg now b stopped (harts_of b.journal) run_is begins_is found come f
      (subst (λ (x : MachineState). ComesShort x leg.ends f) same short))

-- ---- a leg that begins another

wider : (edges : List theory.Edge) (cut later : ℕ → ℕ) → ((hart : ℕ) → cut hart ≤ later hart) → (order : List ℕ) (now : ℕ → ℕ) → Begins edges cut now order →
    Begins edges later now order
wider edges cut later le [] now begins = tt
wider edges cut later le (hart ∷ order) now ((less, met), rest) =
    let up = le hart in ((omega (arith, less, up), met), wider edges cut later le order (bump now hart) rest)

module _ (old new : PlannedLeg) (b : BeginsLeg old new) (log : IsLog new.edges.start new.edges.rows) (m now : MachineState) (was : IsLeg (length m.harts) old)
    (is : IsLeg (length m.harts) new) (base : (hart : ℕ) → count_at new.base hart ≡ counts_of m hart) (led : LegLeads old m now) where
  few : length m.harts ≤ HART_LIMIT
  few = let many = log.harts in let same = ap length is.start ∙ is.harts in omega (arith, many, same)

  -- a hart that has steps in the leg is one of the first HART_LIMIT
  one_of_few : (hart count : ℕ) → count < count_at old.ends hart → hart < HART_LIMIT
  one_of_few hart count less =
      elim (cases_lt hart (length m.harts)) [
        | inl there ↦ omega (arith, there, few)
        | inr over ↦ let none = was.no_others hart over in absurd (omega (arith, none, less))
      ]

  up : (hart : ℕ) → count_at old.ends hart ≤ count_at new.ends hart
  up hart =
      elim (cases_lt hart HART_LIMIT) [
        | inl there ↦ b.ends hart there
        | inr over ↦ let none = was.no_others hart (omega (arith, over, few)) in omega (arith, none)
      ]

  among : (e : theory.Edge) → Contains (edges_of new.edges) e → count_at old.base e.hart ≤ e.step → e.step < count_at old.ends e.hart →
      Contains (edges_of old.edges) e
  among e has from less =
      let (x, in_new, same) = in_row new.edges.start new.edges.rows log e has in
      let step : x.at ≡ e.step = ap (λ (y : theory.Edge). y.step) same in
      let test : nat_lt x.at (count_at old.ends e.hart) ≡ true = lt-ltb x.at (count_at old.ends e.hart) (omega (arith, step, less)) in
      let kept = passing (λ (y : Edge). nat_lt y.at (count_at old.ends e.hart)) (row_of new.edges e.hart) x in_new test in
      let in_old =
      passed (λ (y : Edge). nat_lt y.at (count_at old.ends e.hart)) (row_of old.edges e.hart) x
      (subst (λ (row : List Edge). Contains row x) (b.edges.rows e.hart).below kept) in
      subst (λ (y : theory.Edge). Contains (edges_of old.edges) y) same (to_edges old.edges.rows e.hart x in_old.0)

  begins : Begins (edges_of new.edges) (count_at new.ends) (count_at new.base) led.0
  begins =
      wider (edges_of new.edges) (count_at old.ends) (count_at new.ends) up led.0 (count_at new.base)
      (subst (λ (c : List ℕ). Begins (edges_of new.edges) (count_at old.ends) (count_at c) led.0) (sym b.base)
      (begins_too (edges_of new.edges) (edges_of old.edges) (count_at old.base) (count_at old.ends) among led.0 (count_at old.base) (λ i. omega arith)
      led.1.begins))

  turns_are : leg_turns new led.0 ≡ leg_turns old led.0
  turns_are =
      ap (λ (c : List ℕ). turns_of (log_of new).inputs (count_at c) led.0) b.base
      ∙ same_turns (log_of new).inputs (log_of old).inputs (edges_of old.edges) (count_at old.base) (count_at old.ends)
      (λ hart count from less.
      heard_before (inputs_of old.inputs hart) (count_at old.ends hart) (inputs_of new.inputs hart) count
      (b.inputs hart (one_of_few hart count less)) less) led.0 (count_at old.base) (λ i. omega arith) led.1.begins

  pub begun : HasCome new m now
  begun = record { is_leg = is; base = base; order = led.0; begins = begins; run = ap (run_of m) turns_are ∙ led.2 }
