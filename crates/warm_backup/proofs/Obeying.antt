-- A book that obeyed what came of a leg, from where its harts had come to, as one of the leg.
use Rattle.std.proofs.Common.{◌≡◌, ◌<◌, ◌≤◌, ◌++◌, inl, inr, ℕ, List, [], ◌∷◌, All, Contains, Some, Ok, Err, length, refl, sym, ap, subst, ◌∙◌, arith, le_refl, le_trans}
use Rattle.std.proofs.Common.{ne_eqb}
use Rattle.std.proofs.lemmas.List.Elements.{All-head, All-tail}
use Rattle.ft_types.specs.Counts.{count_at}
use Rattle.interleaving.specs.Lists.{IsWithin}
use Rattle.interleaving.specs.Log.{Edge, Begins, HasUnmet, IsClosed, bump, counts_after, turns_of}
use Rattle.interleaving.specs.Cuts.{IsEnough}
use Rattle.interleaving.proofs.Put.{bump_le}
use Rattle.edge_log.specs.EdgeLog.{edges_of}
use Rattle.input_log.specs.declared.Input.{Input}
use Rattle.input_log.specs.Inputs.{inputs_at, inputs_of}
use Rattle.guest_image.specs.Machine.{MachineState}
use Rattle.hart_lease.specs.Runs.{BeginsSchedule, counts_of, harts_of, heard_in, run_of}
use Rattle.hart_lease.proofs.journals.Sizes.{counts_ran}
use Rattle.book_modes.specs.declared.mode.Leg.{Leg}
use Rattle.page_book.specs.Books.{BookView}
use Rattle.lease_rounds.specs.Leading.{IsIdle}
use Rattle.hart_replay.specs.declared.plans.PlannedLeg.{PlannedLeg}
use Rattle.hart_replay.specs.declared.fault.ReplayFault.{ReplayFault}
use Rattle.hart_replay.specs.Leading.{AreAtEnds, ComesShort, HasStopped, IsHeld, leg_of}
use Rattle.hart_replay.specs.machinery.Going.{LeadsOn, FailsOn}
use Rattle.hart_replay.proofs.GoingOn.{leads_on, fails_on}
use Rattle.hart_replay.proofs.gathering.Inputs.{at-append}
use Rattle.hart_replay.proofs.honesty.Schedules.{same_turns}
use Rattle.warm_backup.specs.machinery.Growing.{IsRest}
use Rattle.warm_backup.specs.machinery.Leading.{AreHeld, IsLed}
use Rattle.warm_backup.proofs.Rest.{begins_whole, closed_on, closed_there, waits_whole}

-- a row has no inputs from a count on that all its inputs are below
none_from : (row : List (ℕ × Input)) (end n : ℕ) → All (λ x. x.0 < end) row → end ≤ n → inputs_at row n ≡ []
none_from [] end n all le = refl
none_from (x ∷ row) end n all le =
    let less = All-head (λ (y : ℕ × Input). y.0 < end) x row all in
    rw (ne_eqb x.0 n (λ (e : x.0 ≡ n). absurd (omega (arith, e, less, le)))) (none_from row end n (All-tail (λ (y : ℕ × Input). y.0 < end) x row all) le)

-- counts only rise
after_le : (now : ℕ → ℕ) (order : List ℕ) (hart : ℕ) → now hart ≤ counts_after now order hart
after_le now [] hart = le_refl (now hart)
after_le now (next ∷ order) hart = le_trans (bump_le now next hart) (after_le (bump now next) order hart)

module _ (old new : PlannedLeg) (rest : Leg) (is : IsRest old new rest) (all : List Edge) (was : IsEnough (edges_of old.edges) all (count_at old.base))
    (early : (e : Edge) → Contains all e → e.step < count_at old.ends e.hart) (closed : IsClosed all (count_at old.ends))
    (low : IsWithin (count_at old.base) (count_at old.ends)) (below : (hart : ℕ) → All (λ x. x.0 < count_at old.ends hart) (inputs_of old.inputs hart))
    (ends : rest.ends ≡ new.ends) (m : MachineState) (at : counts_of m ≡ count_at old.ends) (b : BookView Leg) (start : b.start ≡ m) (mode : b.mode ≡ rest)
    (idle : IsIdle b) (harts : length b.machine.harts ≡ length m.harts) (held : AreHeld b) (led : IsLed b) where
  abbrev now : ℕ → ℕ
  now = count_at old.ends

  abbrev order : List ℕ
  order = harts_of b.journal

  enough : IsEnough (edges_of new.edges) (all ++ is.added) (count_at old.base)
  enough = is.whole all was

  begins_rest : Begins (edges_of rest.edges) (count_at new.ends) now order
  begins_rest =
      subst (λ (c : ℕ → ℕ). Begins (edges_of rest.edges) (count_at new.ends) c order) at
      (subst (λ (e : List ℕ). Begins (edges_of rest.edges) (count_at e) (counts_of m) order) ends
      (subst (λ (l : Leg). Begins (edges_of l.edges) (count_at l.ends) (counts_of m) order) mode
      (subst (λ (s : MachineState). BeginsSchedule (edges_of b.mode.edges) b.mode.ends s b.journal) start led.begins)))

  begins_new : Begins (edges_of new.edges) (count_at new.ends) now order
  begins_new =
      begins_whole (edges_of new.edges) (edges_of rest.edges) all is.added (count_at old.base) now low enough is.enough early is.late closed
      (count_at new.ends) order begins_rest

  closed_now : IsClosed (edges_of new.edges) now
  closed_now =
      closed_there (edges_of new.edges) (edges_of rest.edges) all is.added (count_at old.base) now low enough is.enough early is.late closed

  same_inputs : (hart count : ℕ) → now hart ≤ count → count < count_at new.ends hart →
      inputs_at (inputs_of new.inputs hart) count ≡ inputs_at (inputs_of rest.inputs hart) count
  same_inputs hart count from less =
      ap (λ row. inputs_at row count) (is.inputs hart) ∙
      (at-append (inputs_of old.inputs hart) (inputs_of rest.inputs hart) count ∙
      ap (λ l. l ++ inputs_at (inputs_of rest.inputs hart) count) (none_from (inputs_of old.inputs hart) (now hart) count (below hart) from))

  turns_are : turns_of (heard_in new.inputs) now order ≡ turns_of (heard_in rest.inputs) now order
  turns_are =
      same_turns (heard_in new.inputs) (heard_in rest.inputs) (edges_of rest.edges) now (count_at new.ends) same_inputs order now (λ i. le_refl (now i))
      begins_rest

  run_rest : run_of m (turns_of (heard_in rest.inputs) (counts_of m) order) ≡ Some b.machine
  run_rest =
      subst (λ (l : Leg). run_of m (turns_of (heard_in l.inputs) (counts_of m) order) ≡ Some b.machine) mode
      (subst (λ (s : MachineState). run_of s (turns_of (heard_in b.mode.inputs) (counts_of s) order) ≡ Some b.machine) start led.run)

  run_new : run_of m (turns_of (heard_in new.inputs) (counts_of m) order) ≡ Some b.machine
  run_new =
      subst (λ (c : ℕ → ℕ). run_of m (turns_of (heard_in new.inputs) c order) ≡ Some b.machine) (sym at)
      (ap (run_of m) turns_are ∙ subst (λ (c : ℕ → ℕ). run_of m (turns_of (heard_in rest.inputs) c order) ≡ Some b.machine) at run_rest)

  counted : counts_of b.machine ≡ counts_after now order
  counted = counts_ran m b.machine (heard_in rest.inputs) order run_rest ∙ ap (λ (c : ℕ → ℕ). counts_after c order) at

  -- the same book, of the leg
  abbrev whole : BookView Leg
  whole = record b { mode = leg_of new }

  held_new : (hart : ℕ) → hart < length b.machine.harts → IsHeld whole hart
  held_new hart within =
      elim (held hart within) [
        | inl past ↦
            inl (subst (λ (e : List ℕ). count_at e hart ≤ counts_of b.machine hart) (ap (λ (l : Leg). l.ends) mode ∙ ends) past)
        | inr other ↦ elim other [
          | inl halted ↦ inr (inl halted)
          | inr unmet ↦
              inr (inr
              (waits_whole (edges_of new.edges) (edges_of rest.edges) all is.added (count_at old.base) now low enough is.enough early is.late closed
              (counts_of b.machine) (subst (λ (c : ℕ → ℕ). IsWithin now c) (sym counted) (after_le now order))
              (subst (λ (c : ℕ → ℕ). IsClosed (edges_of new.edges) c) (sym counted)
              (closed_on (edges_of new.edges) (count_at new.ends) now order begins_new closed_now)) hart
              (subst (λ (l : Leg). HasUnmet (edges_of l.edges) (counts_of b.machine) hart) mode unmet)))
        ]
      ]

  stopped : HasStopped m new whole
  stopped = record { leading = record { start = start; mode = refl; idle = idle; harts = harts }; held = held_new }

  run_whole : run_of b.start (turns_of (heard_in new.inputs) (counts_of b.start) order) ≡ Some b.machine
  run_whole = subst (λ (s : MachineState). run_of s (turns_of (heard_in new.inputs) (counts_of s) order) ≡ Some b.machine) (sym start) run_new

  begins_there : BeginsSchedule (edges_of new.edges) new.ends b.start b.journal
  begins_there =
      subst (λ (s : MachineState). Begins (edges_of new.edges) (count_at new.ends) (counts_of s) order) (sym start)
      (subst (λ (c : ℕ → ℕ). Begins (edges_of new.edges) (count_at new.ends) c order) (sym at) begins_new)

  pub leads : AreAtEnds b.machine new.ends → LeadsOn new m b.machine
  leads far = leads_on m new whole stopped (heard_in new.inputs) refl run_whole begins_there b.machine (Ok b.machine) refl (refl, far)

  pub fails : (fault : ReplayFault) → ComesShort b.machine new.ends fault → FailsOn new m fault
  fails fault short = fails_on m new whole stopped (heard_in new.inputs) refl run_whole begins_there b.machine (Err fault) refl short
