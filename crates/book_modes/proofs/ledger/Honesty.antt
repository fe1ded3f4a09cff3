-- A recording book begins, and its log is honest.
use Rattle.std.proofs.Common.{◌≡◌, ℕ, zero, suc, ◌≤◌, List, [], ◌∷◌, length, replicate, slice_get, false, Some, All, ◌<◌, ◌≢◌, ◌⊎◌, inl, inr, ◌+◌, Option}
use Rattle.std.proofs.Common.{None, option_map, Contains, get_or, le_trans, le_of_eq, refl, sym, ap, subst, ◌∙◌, arith}
use Rattle.std.proofs.Math.Path.{fun_ext}
use Rattle.ft_types.specs.declared.names.TheConstants.{HART_ROW}
use Rattle.interleaving.specs.Machine.{System, Machine, Turn, after, step_of, counts, steps, Runs}
use Rattle.interleaving.specs.Log as theory
use Rattle.interleaving.specs.Log.{HasInputs, IsHonest, bump, turns_of}
use Rattle.interleaving.proofs.Put.{same_or_not, put_same, put_other, bump_same, bump_other}
use Rattle.interleaving.specs.Cuts.{IsEnough}
use Rattle.interleaving.specs.Stored.{view}
use Rattle.input_log.specs.declared.Input.{Input}
use Rattle.edge_log.specs.declared.Edge.{Edge}
use Rattle.edge_log.specs.EdgeLog.{edge_as, edges_of, row_of, start_of}
use Rattle.edge_log.proofs.Logs.{to_edges}
use Rattle.lease_ledger.specs.Ledger as ledger
use Rattle.lease_ledger.specs.Calls.{Begun}
use Rattle.lease_ledger.specs.Laws.{IsOf, IsKept, IsInLog}
use Rattle.lease_ledger.proofs.Laws.{keeps_ledger, keeps_order}
use Rattle.rv32_hart.specs.Hart.{Hart}
use Rattle.rv32_hart.specs.Hardware.{hardware}
use Rattle.guest_image.specs.Machine.{MachineState}
use Rattle.hart_lease.specs.declared.stretch.Stretch.{Stretch}
use Rattle.hart_lease.specs.OpenLeases.{OpenView}
use Rattle.hart_lease.specs.Recorded.{system}
use Rattle.hart_lease.specs.Runs.{counts_of, harts_of, journal_turns}
use Rattle.book_modes.specs.Dues.{DueView, nothing_due, due_at}
use Rattle.book_modes.proofs.bells.Unheard.{unheard_rung}
use Rattle.input_log.specs.Inputs.{is_bell, IsInputOf, inputs_of}
use Rattle.input_log.specs.Notes.{notes_of}
use Rattle.input_log.specs.Waiting.{bells_of, others_of}
use Rattle.input_log.proofs.Notings.{noted_within}
use Rattle.std.proofs.lemmas.List.Elements.{All-append, All-cons, Contains-get_or}
use Rattle.std.proofs.lemmas.List.{length-replicate}
use Rattle.book_modes.specs.Recordings.{RecordingView, IsRecorded, IsUnused, IsOffered, IsNoting, HasRoomed, IsDueEdge, IsRung, heard_by, stub_as, IsBetween, log_of, HasHonestLog}
use Rattle.hart_lease.proofs.pages.Slots.{none-replicate}
use Rattle.book_modes.specs.Hearings.{HearsInTurn}
use Rattle.hart_lease.proofs.journals.Counts.{counts_is}
use Rattle.book_modes.proofs.bells.InTurn.{turns_few}
use Rattle.book_modes.proofs.bells.Waiting.{begun_bells, offered_bells}
use Rattle.interleaving.proofs.Each.{each_at}
use Rattle.interleaving.proofs.Runs.{in_turn, from_now}

-- the steps of an order have the inputs of which it is made
inputs_told : {H P I : Type 0} (s : System H P I) (log : theory.Log I) (m : Machine H P) (now : ℕ → ℕ) (order : List ℕ) →
    ((hart : ℕ) → now hart ≡ counts s m hart) → Runs s m (turns_of log.inputs now order) → HasInputs s log (steps s m (turns_of log.inputs now order))
inputs_told s log m now [] same runs = tt
inputs_told {I = I} s log m now (h ∷ order) same runs = (
  ap (log.inputs h) (same h),
  inputs_told s log (after m (step_of s m t)) (bump now h) order (λ hart. bumped hart (same_or_not h hart)) runs.1,
)
  where
    t : Turn I
    t = record { hart = h; input = log.inputs h (now h) }

    bumped : (hart : ℕ) → (h ≡ hart) ⊎ (h ≢ hart) → bump now h hart ≡ counts s (after m (step_of s m t)) hart
    bumped hart (inl e) =
        rw (← e)
        (bump_same now h ∙ ap (λ n. n + 1) (same h) ∙ sym (s.counted (m.harts h) t.input m.pages runs.0) ∙
        ap s.count (sym (put_same m.harts h h (step_of s m t).effect.hart refl)))
    bumped hart (inr ne) =
        bump_other now h hart ne ∙ same hart ∙ ap s.count (sym (put_other m.harts h hart (step_of s m t).effect.hart ne))

-- conflicts come in the order of the edges
ordered_log : (r : RecordingView) (start machine : MachineState) (journal : List Stretch) (leases : List (Option OpenView)) →
    IsRecorded r start machine journal leases →
    IsHonest (system (length start.pages)) (log_of r.edges (heard_by r) start machine) (view (hardware (length start.pages)) start)
    (journal_turns (heard_by r) start journal)
ordered_log r start machine journal leases p =
    subst (IsHonest (system pages) log (view (hardware pages) start)) p.led.in_journal
    (is_kept.short log is_of
    (subst (IsEnough (edges_of r.edges) p.ledger.edges) (fun_ext p.log.from_start) p.log.enough))
  where
    pages : ℕ
    pages = length start.pages

    log : theory.Log (List Input)
    log = log_of r.edges (heard_by r) start machine

    is_kept : IsKept (system pages) (view (hardware pages) start) p.ledger
    is_kept = keeps_ledger (system pages) (length start.harts) (view (hardware pages) start) p.ledger p.size.few p.led.reached

    is_of : IsOf (system pages) log (view (hardware pages) start) p.ledger
    is_of =
        record {
          inputs =
              subst (λ ts. HasInputs (system pages) log (steps (system pages) (view (hardware pages) start) ts)) (sym p.led.in_journal)
              (inputs_told (system pages) log (view (hardware pages) start) (counts_of start) (harts_of journal)
              (λ hart. sym (counts_is pages start hart)) (subst (Runs (system pages) (view (hardware pages) start)) p.led.in_journal is_kept.runs));
          from_start = λ hart. sym (counts_is pages start hart);
          to_end =
              λ hart.
              sym (counts_is pages machine hart) ∙
              ap (λ (k : Machine (Option Hart) (Option (List ℕ))). counts (system pages) k hart) (sym p.led.at_machine);
        }

-- bells are heard in their turn
heard_in_turn : (r : RecordingView) (start machine : MachineState) (journal : List Stretch) (leases : List (Option OpenView)) →
    IsRecorded r start machine journal leases →
    HearsInTurn (length start.pages) (edges_of r.edges) (view (hardware (length start.pages)) start)
    (steps (system (length start.pages)) (view (hardware (length start.pages)) start) (journal_turns (heard_by r) start journal))
heard_in_turn r start machine journal leases p =
    subst (λ ts. HearsInTurn pages (edges_of r.edges) (view (hardware pages) start) (steps (system pages) (view (hardware pages) start) ts)) p.led.in_journal
    (turns_few (edges_of r.edges) p.ledger.edges start (steps (system pages) (view (hardware pages) start) p.ledger.journal) (start_of r.edges) p.log.enough
    (λ s i.
    let from = each_at (λ s. counts (system pages) (view (hardware pages) start) s.hart ≤ (system pages).count s.found)
    (steps (system pages) (view (hardware pages) start) p.ledger.journal) s
    (from_now (system pages) (counts (system pages) (view (hardware pages) start)) (steps (system pages) (view (hardware pages) start) p.ledger.journal)
    (in_turn (system pages) (view (hardware pages) start) p.ledger.journal is_kept.runs)) i in
    omega (arith, from, p.log.from_start s.hart, counts_is pages start s.hart)) p.heard.in_turn)
  where
    pages : ℕ
    pages = length start.pages

    is_kept : IsKept (system pages) (view (hardware pages) start) p.ledger
    is_kept = keeps_ledger (system pages) (length start.harts) (view (hardware pages) start) p.ledger p.size.few p.led.reached

-- the log tells truly of the journal
pub honest_log : (r : RecordingView) (start machine : MachineState) (journal : List Stretch) (leases : List (Option OpenView)) →
    IsRecorded r start machine journal leases → HasHonestLog r.edges (heard_by r) start journal machine
honest_log r start machine journal leases p =
    record { honest = ordered_log r start machine journal leases p; bells = heard_in_turn r start machine journal leases p }

-- an edge of the log is between two harts, and what it names has been settled
-- each input that is logged is of a count from the start on, and below the settled one
pub logged_within : (r : RecordingView) (start machine : MachineState) (journal : List Stretch) (leases : List (Option OpenView)) →
    IsRecorded r start machine journal leases → (hart : ℕ) →
    All (λ x. (counts_of start hart ≤ x.0) × (x.0 < counts_of machine hart)) (inputs_of r.inputs hart)
logged_within r start machine journal leases p hart k d below = (p.begun hart k d below, p.logged hart k d below)

pub between : (r : RecordingView) (start machine : MachineState) (journal : List Stretch) (leases : List (Option OpenView)) →
    IsRecorded r start machine journal leases → (hart : ℕ) → All (IsBetween machine hart) (row_of r.edges hart)
between r start machine journal leases p hart k d below =
    record {
      own = own;
      other = omega (arith, found.other, p.size.harts);
      another = λ same. found.another (same ∙ sym own);
      at = le_trans found.so_far (le_of_eq (count_in e.hart ∙ ap (counts_of machine) own));
      some = let later = p.log.log.later hart k d below in omega (arith, later);
      settled = le_trans found.met (le_of_eq (count_in e.other));
    }
  where
    pages : ℕ
    pages = length start.pages

    e : Edge
    e = get_or (get_or r.edges.rows hart []) k d

    own : e.hart ≡ hart
    own = (p.log.log.own hart k d below).own

    count_in : (other : ℕ) → counts (system pages) p.ledger.machine other ≡ counts_of machine other
    count_in other = ap (λ (k : Machine (Option Hart) (Option (List ℕ))). counts (system pages) k other) p.led.at_machine ∙ counts_is pages machine other

    found : IsInLog (system pages) (length start.harts) (view (hardware pages) start) p.ledger.machine (edge_as e)
    found =
        (keeps_order (system pages) (length start.harts) (view (hardware pages) start) p.ledger p.size.few p.led.reached).log (edge_as e)
        (p.log.enough.among (edge_as e) (to_edges r.edges.rows hart e (Contains-get_or (get_or r.edges.rows hart []) k d below)))

-- nobody has used a page
index_same : (n hart : ℕ) → due_at (replicate n nothing_due) hart ≡ nothing_due
index_same zero hart = refl
index_same (suc n) zero = refl
index_same (suc n) (suc hart) = index_same n hart

pub begun_kept : (r : RecordingView) (start : MachineState) (limits : List ℕ) → length limits ≡ length start.harts → IsUnused r start limits →
    ((hart : ℕ) (h : Hart) → slice_get start.harts hart ≡ Some h → length h.received.heard ≡ HART_ROW) → IsRecorded r start start [] (replicate HART_ROW None)
begun_kept r start limits many u rows =
    record {
      ledger = ledger.begin (view (hardware (length start.pages)) start);
      led = record {
        reached = Begun;
        at_machine = refl;
        in_journal = refl;
        stubs = λ hart. ap (option_map stub_as) (sym (none-replicate {A = OpenView} HART_ROW hart));
      };
      size = record { few = u.few; harts = refl; pages = refl };
      log = record {
        log = u.log;
        harts = u.log_harts;
        from_start = u.log_start;
        enough =
            subst (λ es. IsEnough es [] (start_of r.edges)) (sym u.edges)
            (record { among = λ e i. i; implied = λ e i. absurd (nothing e i); start_closed = λ e i. absurd (nothing e i) });
      };
      rights = record { many = u.many; each = λ page lt. sym (u.rights page lt) };
      limits = ap length u.limits_are ∙ many;
      logged = λ hart. subst (All (λ x. x.0 < counts_of start hart)) (sym (u.inputs hart)) (λ k d below. absurd (omega arith));
      begun = λ hart. subst (All (λ x. counts_of start hart ≤ x.0)) (sym (u.inputs hart)) (λ k d below. absurd (omega arith));
      noted = λ hart. subst (All (λ x. x.0 ≤ counts_of start hart)) (sym (u.notes hart)) (λ k d below. absurd (omega arith));
      due = record {
        many = ap length u.due ∙ length-replicate {A = DueView} HART_ROW nothing_due;
        edges =
            λ hart.
            subst (λ (d : DueView). All (IsDueEdge start hart) d.edges)
            (sym (ap (λ (ds : List DueView). due_at ds hart) u.due ∙ index_same HART_ROW hart)) (λ k d below. absurd (omega arith));
        given = λ hart lent e. let same = sym (none-replicate {A = OpenView} HART_ROW hart) ∙ e in cc;
        given_edges = λ hart lent e. let same = sym (none-replicate {A = OpenView} HART_ROW hart) ∙ e in cc;
      };
      bells = λ hart. subst (All (IsRung start)) (sym (u.bells hart)) (unheard_rung start hart);
      inputs =
          record {
            logged = λ hart. subst (All (λ x. IsInputOf (length start.harts) x.1)) (sym (u.inputs hart)) (λ k d below. absurd (omega arith));
            due =
                λ hart.
                subst (λ (d : DueView). All (IsInputOf (length start.harts)) d.inputs)
                (sym (ap (λ (ds : List DueView). due_at ds hart) u.due ∙ index_same HART_ROW hart)) (λ k d below. absurd (omega arith));
            waiting = λ hart. subst (All (λ w. IsInputOf (length start.harts) w.input)) (sym (u.others hart)) (λ k d below. absurd (omega arith));
          };
      heard =
          begun_bells start r.due r.desk (λ hart h is. let row = rows hart h is in omega (arith, row, u.few))
          (λ hart. ap (λ (ds : List DueView). due_at ds hart) u.due ∙ index_same HART_ROW hart) u.bells u.others;
    }
  where
    nothing : (e : theory.Edge) → Contains [] e → ⊥
    nothing e (k, below, is) = omega arith

-- higher limits change nothing else
pub raised_kept : (r : RecordingView) (limits : List ℕ) (start machine : MachineState) (journal : List Stretch) (leases : List (Option OpenView)) →
    length limits ≡ length r.limits → IsRecorded r start machine journal leases → IsRecorded (record r { limits = limits }) start machine journal leases
raised_kept r limits start machine journal leases as_many p =
    record {
      ledger = p.ledger;
      led = p.led;
      size = p.size;
      log = p.log;
      rights = p.rights;
      limits = as_many ∙ p.limits;
      logged = p.logged;
      begun = p.begun;
      noted = p.noted;
      due = p.due;
      bells = p.bells;
      inputs = p.inputs;
      heard = p.heard;
    }

-- so does one more input that waits
pub offered_kept : (r new : RecordingView) (hart not_before : ℕ) (input : Input) (start machine : MachineState) (journal : List Stretch)
    (leases : List (Option OpenView)) → IsOffered r hart not_before input new → IsInputOf (length start.harts) input →
    is_bell input ≡ false → IsRecorded r start machine journal leases → IsRecorded new start machine journal leases
offered_kept r new hart not_before input start machine journal leases o told plain p =
    subst (λ v. IsRecorded v start machine journal leases) (sym o.rest)
    (record {
      ledger = p.ledger;
      led = p.led;
      size = p.size;
      log = p.log;
      rights = p.rights;
      limits = p.limits;
      logged = p.logged;
      begun = p.begun;
      noted = p.noted;
      due = p.due;
      bells =
          λ other.
          elim (same_or_not hart other) [
            | inl same ↦ subst (λ h. All (IsRung machine) (bells_of new.desk h)) same (subst (All (IsRung machine)) (sym o.bells) (p.bells hart))
            | inr ne ↦ subst (All (IsRung machine)) (sym (o.bells_of_others other (λ e. ne (sym e)))) (p.bells other)
          ];
      inputs =
          record {
            logged = p.inputs.logged;
            due = p.inputs.due;
            waiting =
                λ other.
                elim (same_or_not hart other) [
                  | inl same ↦
                      subst (λ h. All (λ w. IsInputOf (length start.harts) w.input) (others_of new.desk h)) same
                      (subst (All (λ w. IsInputOf (length start.harts) w.input)) (sym o.others)
                      (All-append (λ w. IsInputOf (length start.harts) w.input) (others_of r.desk hart) (record { not_before = not_before; input = input } ∷ [])
                      (p.inputs.waiting hart) (All-cons (λ w. IsInputOf (length start.harts) w.input) (record { not_before = not_before; input = input }) []
                      told (λ k d below. absurd (omega arith)))))
                  | inr ne ↦
                      subst (All (λ w. IsInputOf (length start.harts) w.input)) (sym (o.others_of_others other (λ e. ne (sym e)))) (p.inputs.waiting other)
                ];
          };
      heard = offered_bells start p.ledger.machine _ p.ledger.edges r new hart not_before input o plain p.heard;
    })

-- so do other notes, none at a count that its hart has yet to reach
pub renoted_kept : (r new : RecordingView) (start machine : MachineState) (journal : List Stretch) (leases : List (Option OpenView)) →
    new ≡ record r { notes = new.notes } → ((hart : ℕ) → All (λ x. x.0 ≤ counts_of machine hart) (notes_of new.notes hart)) →
    IsRecorded r start machine journal leases → IsRecorded new start machine journal leases
renoted_kept r new start machine journal leases rest within p =
    subst (λ v. IsRecorded v start machine journal leases) (sym rest)
    (record {
      ledger = p.ledger;
      led = p.led;
      size = p.size;
      log = p.log;
      rights = p.rights;
      limits = p.limits;
      logged = p.logged;
      begun = p.begun;
      noted = within;
      due = p.due;
      bells = p.bells;
      inputs = p.inputs;
      heard = p.heard;
    })

-- such are they with a note more at a count that its hart has reached
pub noting_within : (r new : RecordingView) (hart count number : ℕ) (machine : MachineState) → IsNoting r hart count number new →
    count ≤ counts_of machine hart → ((other : ℕ) → All (λ x. x.0 ≤ counts_of machine other) (notes_of r.notes other)) → (other : ℕ) →
    All (λ x. x.0 ≤ counts_of machine other) (notes_of new.notes other)
noting_within r new hart count number machine is reached were other =
    elim (same_or_not hart other) [
      | inl same ↦
          subst (λ h. All (λ x. x.0 ≤ counts_of machine h) (notes_of new.notes h)) same
          (subst (All (λ x. x.0 ≤ counts_of machine hart)) (sym is.noted)
          (noted_within (notes_of r.notes hart) count number (counts_of machine hart) reached (were hart)))
      | inr ne ↦ subst (All (λ x. x.0 ≤ counts_of machine other)) (sym (is.others other (λ e. ne (sym e)))) (were other)
    ]
