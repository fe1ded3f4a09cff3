-- What is due to harts, and what waits for them.
use Rattle.std.proofs.Common.{◌≡◌, ◌≢◌, ◌==◌, inl, inr, ℕ, zero, suc, ◌+◌, ◌-◌, ◌<◌, ◌≤◌, Bool, true, false, List, [], ◌∷◌, ◌++◌, length, map, get_or}
use Rattle.std.proofs.Common.{replicate, slice_index, All, Contains, if◌then◌else◌, cond, nat_le, Option, None, Some, refl, ap, sym, subst, ◌∙◌, arith}
use Rattle.std.proofs.Common.{length-set}
use Rattle.std.specs.List.{take_while}
use Rattle.std.proofs.lemmas.Bool.{eqb-false}
use Rattle.std.proofs.lemmas.List.Sums.{take_while-cons}
use Rattle.std.proofs.lemmas.List.{get_or-set_other}
use Rattle.std.proofs.lemmas.List.Elements.{All-cons, All-head, All-tail, All-take, All-drop, All-append, All-map}
use Rattle.ft_types.specs.declared.names.TheConstants.{HART_LIMIT, HART_ROW, INPUT_LIMIT}
use Rattle.interleaving.specs.Machine.{Machine, counts, steps}
use Rattle.interleaving.specs.Stored.{view}
use Rattle.interleaving.proofs.Put.{same_or_not}
use Rattle.rv32_hart.specs.Hart.{Hart}
use Rattle.rv32_hart.specs.Hardware.{hardware}
use Rattle.input_log.specs.declared.Input.{Input}
use Rattle.input_log.specs.declared.WaitingBell.{WaitingBell}
use Rattle.input_log.specs.declared.Input.TheVariants.{Bell}
use Rattle.input_log.specs.declared.WaitingInput.{WaitingInput}
use Rattle.input_log.specs.Inputs.{IsInputOf, inputs_of, inputs_at, AreAddedTo}
use Rattle.input_log.specs.Waiting.{bells_of, others_of, bells_going, room_beside, others_going, going}
use Rattle.input_log.proofs.Added.{added_at, kept_at, none_from}
use Rattle.edge_log.specs.declared.Edge.{Edge}
use Rattle.guest_image.specs.Machine.{MachineState}
use Rattle.hart_lease.specs.declared.stretch.Stretch.{Stretch}
use Rattle.hart_lease.specs.OpenLeases.{OpenView, open_at}
use Rattle.hart_lease.specs.Leases.{LeaseView, rung_bell, bells_rung, laid}
use Rattle.hart_lease.specs.Runs.{IsLease, counts_of, HearsOn}
use Rattle.book_modes.specs.Dues.{DueView, nothing_due, due_at, bell_edges, due_from, is_silent}
use Rattle.hart_lease.proofs.journals.Counts.{counts_is}
use Rattle.book_modes.proofs.ledger.NewDue.{due_set}
use Rattle.book_modes.proofs.bells.Waiting.{taken_bells}
use Rattle.hart_lease.specs.Recorded.{system}
use Rattle.book_modes.specs.Recordings.{RecordingView, IsRecorded, AreInputs, IsDueEdge, IsRung, IsFilled, TakesFromDesk, LogsInputs, HasRung, due_after}
use Rattle.book_modes.specs.Recordings.{heard_by}

-- what holds of all holds of those from the front on that pass a test
All-while : {A : Type 0} (P : A → Type 0) (test : A → Bool) (xs : List A) → All P xs → All P (take_while test xs)
All-while P test [] all = λ k d below. absurd (omega arith)
All-while {A} P test (x ∷ xs) all = subst (All P) (sym (take_while-cons test x xs)) (of (test x) (All-while P test xs (All-tail P x xs all)))
  where
    of : (passes : Bool) → All P (take_while test xs) → All P (cond passes (x ∷ take_while test xs) [])
    of true rest = All-cons P x (take_while test xs) (All-head P x xs all) rest
    of false rest = λ k d below. absurd (omega arith)

-- the edges of bells that harts have rung are due
bell_edges_due : (m : MachineState) (hart count : ℕ) → count ≡ counts_of m hart → (bells : List WaitingBell) → All (IsRung m) bells →
    All (IsDueEdge m hart) (bell_edges hart count bells)
bell_edges_due m hart count at [] rung = λ k d below. absurd (omega arith)
bell_edges_due m hart count at (b ∷ bells) rung = of (b.source == hart) refl (bell_edges_due m hart count at bells (All-tail (IsRung m) b bells rung))
  where
    its : IsRung m b
    its = All-head (IsRung m) b bells rung

    of : (own : Bool) → (b.source == hart) ≡ own → All (IsDueEdge m hart) (bell_edges hart count bells) →
        All (IsDueEdge m hart)
        (if own then bell_edges hart count bells else record { hart = hart; at = count; other = b.source; after = b.after } ∷ bell_edges hart count bells)
    of true is rest = rest
    of false is rest =
        All-cons (IsDueEdge m hart) (record { hart = hart; at = count; other = b.source; after = b.after }) (bell_edges hart count bells)
        (record { own = refl; at = at; other = its.source; another = eqb-false b.source hart is; settled = its.settled }) rest

-- nothing is given
pub of_silence : (inputs : List Input) → is_silent inputs ≡ true → inputs ≡ []
of_silence [] e = refl
of_silence (i ∷ inputs) e = cc

-- A hart without an open lease is given what is due to it.
module _ (r new : RecordingView) (hart count : ℕ) (start m : MachineState) (journal : List Stretch) (leases : List (Option OpenView)) (row : hart < HART_LIMIT)
    (closed : open_at leases hart ≡ None) (at : count ≡ counts_of m hart) (p : IsRecorded r start m journal leases) where
  from_desk : is_silent (due_at r.due hart).inputs ≡ true → TakesFromDesk r hart count new → IsRecorded new start m journal leases
  from_desk silent t =
      subst (λ v. IsRecorded v start m journal leases) (sym t.rest)
      (record {
        ledger = p.ledger;
        led = p.led;
        size = p.size;
        log = p.log;
        rights = p.rights;
        limits = p.limits;
        logged = p.logged;
        begun = p.begun;
        noted = p.noted;
        due = record {
          many = ap length t.due ∙ (length-set r.due hart _ ∙ p.due.many);
          edges =
              λ h. subst (λ (due : List DueView). All (IsDueEdge m h) (due_at due h).edges) (sym t.due)
              (due_set r.due hart (due_from hart count (bells_of r.desk hart) _) (λ h d. All (IsDueEdge m h) d.edges) (omega (arith, row, p.due.many))
              (bell_edges_due m hart count at (bells_going (bells_of r.desk hart)) (All-take (IsRung m) INPUT_LIMIT (bells_of r.desk hart) (p.bells hart)))
              (λ h ne. p.due.edges h) h);
          given = given_left;
          given_edges = edges_left;
        };
        bells = bells_left;
        inputs = record { logged = p.inputs.logged; due = due_left; waiting = waiting_left };
        heard =
            taken_bells start p.ledger.machine (steps (system pages) (view (hardware pages) start) p.ledger.journal) p.ledger.edges r new hart count t
            (of_silence (due_at r.due hart).inputs silent) at_ledger (omega (arith, row, p.due.many)) p.heard;
      })
    where
      bells_left : (h : ℕ) → All (IsRung m) (bells_of new.desk h)
      bells_left h =
          elim (same_or_not hart h) [
            | inl same ↦
                subst (λ h. All (IsRung m) (bells_of new.desk h)) same
                (subst (All (IsRung m)) (sym t.bells) (All-drop (IsRung m) INPUT_LIMIT (bells_of r.desk hart) (p.bells hart)))
            | inr ne ↦ subst (All (IsRung m)) (sym (t.bells_of_others h (λ e. ne (sym e)))) (p.bells h)
          ]

      pages : ℕ
      pages = length start.pages

      crew : ℕ
      crew = length start.harts

      at_ledger : count ≡ counts (system pages) p.ledger.machine hart
      at_ledger =
          at ∙ (sym (counts_is pages m hart) ∙ ap (λ (k : Machine (Option Hart) (Option (List ℕ))). counts (system pages) k hart) (sym p.led.at_machine))

      -- what goes from the desk
      goes : All (IsInputOf crew) (going count (bells_of r.desk hart) (others_of r.desk hart))
      goes =
          All-append (IsInputOf crew) (map (λ b. Bell b.source) (bells_going (bells_of r.desk hart)))
          (map (λ w. w.input) (others_going count (room_beside (bells_of r.desk hart)) (others_of r.desk hart)))
          (All-map (IsInputOf crew) (λ (b : WaitingBell). Bell b.source) (bells_going (bells_of r.desk hart))
          (λ k d below.
          let rung = All-take (IsRung m) INPUT_LIMIT (bells_of r.desk hart) (p.bells hart) k d below in
          omega (arith, rung.source, p.size.harts)))
          (All-map (IsInputOf crew) (λ (w : WaitingInput). w.input) (others_going count (room_beside (bells_of r.desk hart)) (others_of r.desk hart))
          (All-take (λ w. IsInputOf crew w.input) (room_beside (bells_of r.desk hart)) (take_while (λ w. nat_le w.not_before count) (others_of r.desk hart))
          (All-while (λ w. IsInputOf crew w.input) (λ w. nat_le w.not_before count) (others_of r.desk hart) (p.inputs.waiting hart))))

      due_left : (h : ℕ) → All (IsInputOf crew) (due_at new.due h).inputs
      due_left h =
          subst (λ (due : List DueView). All (IsInputOf crew) (due_at due h).inputs) (sym t.due)
          (due_set r.due hart (due_from hart count (bells_of r.desk hart) (others_of r.desk hart)) (λ h d. All (IsInputOf crew) d.inputs)
          (omega (arith, row, p.due.many))
          goes (λ h ne. p.inputs.due h) h)

      waiting_left : (h : ℕ) → All (λ w. IsInputOf crew w.input) (others_of new.desk h)
      waiting_left h =
          elim (same_or_not hart h) [
            | inl same ↦
                subst (λ h. All (λ w. IsInputOf crew w.input) (others_of new.desk h)) same
                (subst (All (λ w. IsInputOf crew w.input)) (sym t.others)
                (All-drop (λ w. IsInputOf crew w.input) (length (others_going count (room_beside (bells_of r.desk hart)) (others_of r.desk hart)))
                (others_of r.desk hart) (p.inputs.waiting hart)))
            | inr ne ↦ subst (All (λ w. IsInputOf crew w.input)) (sym (t.others_of_others h (λ e. ne (sym e)))) (p.inputs.waiting h)
          ]

      given_left : (h : ℕ) (lent : OpenView) → open_at leases h ≡ Some lent → lent.inputs ≡ (due_at new.due h).inputs
      given_left h lent e =
          elim (same_or_not hart h) [
            | inl same ↦ let no : None ≡ Some lent = sym closed ∙ (ap (open_at leases) same ∙ e) in cc
            | inr ne ↦
                p.due.given h lent e ∙
                ap (λ (d : DueView). d.inputs) (sym (ap (λ (due : List DueView). due_at due h) t.due ∙ get_or-set_other r.due hart h _ nothing_due
                (λ e. ne (sym e))))
          ]

      edges_left : (h : ℕ) (lent : OpenView) → open_at leases h ≡ Some lent → (x : Edge) → Contains (due_at new.due h).edges x → Contains lent.edges x
      edges_left h lent e x i =
          elim (same_or_not hart h) [
            | inl same ↦ let no : None ≡ Some lent = sym closed ∙ (ap (open_at leases) same ∙ e) in cc
            | inr ne ↦
                p.due.given_edges h lent e x
                (subst (λ (d : DueView). Contains d.edges x)
                (ap (λ (due : List DueView). due_at due h) t.due ∙ get_or-set_other r.due hart h _ nothing_due (λ e. ne (sym e))) i)
          ]

  pub filled_kept : (silent : Bool) → is_silent (due_at r.due hart).inputs ≡ silent → IsFilled silent r hart count new → IsRecorded new start m journal leases
  filled_kept false is same = subst (λ v. IsRecorded v start m journal leases) (sym same) p
  filled_kept true is t = from_desk is t

-- A lease comes back.
module _ (r new : RecordingView) (start m : MachineState) (journal : List Stretch) (leases : List (Option OpenView)) (l : LeaseView) (lease : IsLease l)
    (lent_at : counts_of m l.hart ≡ l.base.count) (now_at : counts_of (laid m l) l.hart ≡ l.present.count)
    (row : l.hart < length r.due) (others : (hart : ℕ) → l.hart ≢ hart → counts_of (laid m l) hart ≡ counts_of m hart)
    (harts : length (laid m l).harts ≡ length m.harts)
    (p : IsRecorded r start m journal leases) where
  grown : (hart : ℕ) → counts_of m hart ≤ counts_of (laid m l) hart
  grown hart =
      elim (same_or_not l.hart hart) [
        | inl same ↦ subst (λ h. counts_of m h ≤ counts_of (laid m l) h) same (omega (arith, lent_at, now_at, lease.count))
        | inr ne ↦ omega (arith, others hart ne)
      ]

  pub last_logged : All (λ x. x.0 < l.base.count) (inputs_of r.inputs l.hart)
  last_logged = subst (λ n. All (λ x. x.0 < n) (inputs_of r.inputs l.hart)) lent_at (p.logged l.hart)

  -- its inputs are heard at the count at which it was lent, and nowhere else
  pub heard_on : (steps : ℕ) → l.steps ≡ steps → LogsInputs steps r.inputs l new.inputs → HearsOn (heard_by r) (heard_by new) (counts_of m) l
  heard_on zero is logs = record {
    before = λ hart n lt. ap (λ log. heard_by (record r { inputs = log }) hart n) logs;
    first = λ some. absurd (some is);
    later = λ n from below. absurd (omega (arith, from, below, lent_at, lease.count, is));
  }
  heard_on (suc steps) is logs = record {
    before = before_it;
    first = λ some. ap (λ row. inputs_at row (counts_of m l.hart)) logs.row ∙
        subst (λ n. inputs_at (inputs_of r.inputs l.hart ++ map (λ i. (l.base.count, i)) l.inputs) n ≡ l.inputs) (sym lent_at)
        (added_at (inputs_of r.inputs l.hart) l.base.count l.inputs last_logged);
    later = λ n from below. ap (λ row. inputs_at row n) logs.row ∙ (kept_at (inputs_of r.inputs l.hart) l.base.count n l.inputs
        (λ e. omega (arith, e, from, lent_at)) ∙ none_from (inputs_of r.inputs l.hart) l.base.count n last_logged (omega (arith, from, lent_at)));
  }
    where
      before_it : (hart n : ℕ) → n < counts_of m hart → heard_by new hart n ≡ heard_by r hart n
      before_it hart n lt =
          elim (same_or_not l.hart hart) [
            | inl at ↦
                subst (λ h. n < counts_of m h → heard_by new h n ≡ heard_by r h n) at
                (λ below. ap (λ row. inputs_at row n) logs.row ∙
                kept_at (inputs_of r.inputs l.hart) l.base.count n l.inputs (λ e. omega (arith, e, below, lent_at))) lt
            | inr ne ↦ ap (λ row. inputs_at row n) (logs.others hart (λ e. ne (sym e)))
          ]

  pub still_logged : (steps : ℕ) → l.steps ≡ steps → LogsInputs steps r.inputs l new.inputs → (hart : ℕ) →
      All (λ x. x.0 < counts_of (laid m l) hart) (inputs_of new.inputs hart)
  still_logged zero is logs hart =
      subst (λ log. All (λ x. x.0 < counts_of (laid m l) hart) (inputs_of log hart)) (sym logs)
      (λ k d below. let lt = p.logged hart k d below in let more = grown hart in omega (arith, lt, more))
  still_logged (suc steps) is logs hart =
      elim (same_or_not l.hart hart) [
        | inl same ↦
            subst (λ h. All (λ x. x.0 < counts_of (laid m l) h) (inputs_of new.inputs h)) same
            (subst (All (λ x. x.0 < counts_of (laid m l) l.hart)) (sym logs.row)
            (All-append (λ x. x.0 < counts_of (laid m l) l.hart) (inputs_of r.inputs l.hart) (map (λ i. (l.base.count, i)) l.inputs)
            (λ k d below. let lt = last_logged k d below in omega (arith, lt, now_at, lease.count))
            (All-map (λ x. x.0 < counts_of (laid m l) l.hart) (λ i. (l.base.count, i)) l.inputs (λ k d below. omega (arith, now_at, lease.count, is)))))
        | inr ne ↦
            subst (All (λ x. x.0 < counts_of (laid m l) hart)) (sym (logs.others hart (λ e. ne (sym e))))
            (λ k d below. let lt = p.logged hart k d below in let more = grown hart in omega (arith, lt, more))
      ]

  -- none is from before the start
  pub still_begun : counts_of start l.hart ≤ counts_of m l.hart → (steps : ℕ) → LogsInputs steps r.inputs l new.inputs → (hart : ℕ) →
      All (λ x. counts_of start hart ≤ x.0) (inputs_of new.inputs hart)
  still_begun since zero logs hart = subst (λ log. All (λ x. counts_of start hart ≤ x.0) (inputs_of log hart)) (sym logs) (p.begun hart)
  still_begun since (suc steps) logs hart =
      elim (same_or_not l.hart hart) [
        | inl same ↦
            subst (λ h. All (λ x. counts_of start h ≤ x.0) (inputs_of new.inputs h)) same
            (subst (All (λ x. counts_of start l.hart ≤ x.0)) (sym logs.row)
            (All-append (λ x. counts_of start l.hart ≤ x.0) (inputs_of r.inputs l.hart) (map (λ i. (l.base.count, i)) l.inputs) (p.begun l.hart)
            (All-map (λ x. counts_of start l.hart ≤ x.0) (λ i. (l.base.count, i)) l.inputs (λ k d below. omega (arith, since, lent_at)))))
        | inr ne ↦ subst (All (λ x. counts_of start hart ≤ x.0)) (sym (logs.others hart (λ e. ne (sym e)))) (p.begun hart)
      ]

  -- an edge that was due still is, where its hart has taken no step
  due_on : (hart : ℕ) → counts_of (laid m l) hart ≡ counts_of m hart → (e : Edge) → IsDueEdge m hart e → IsDueEdge (laid m l) hart e
  due_on hart same e d =
      let more = grown e.other in
      record { own = d.own; at = d.at ∙ sym same; other = omega (arith, d.other, harts); another = d.another; settled = omega (arith, d.settled, more) }

  pub still_due : (steps : ℕ) → l.steps ≡ steps → new.due ≡ due_after steps r.due l.hart → (hart : ℕ) →
      All (IsDueEdge (laid m l) hart) (due_at new.due hart).edges
  still_due zero is due hart =
      subst (λ (ds : List DueView). All (IsDueEdge (laid m l) hart) (due_at ds hart).edges) (sym due)
      (λ k d below. due_on hart stays _ (p.due.edges hart k d below))
    where
      stays : counts_of (laid m l) hart ≡ counts_of m hart
      stays =
          elim (same_or_not l.hart hart) [
            | inl same ↦ subst (λ h. counts_of (laid m l) h ≡ counts_of m h) same (omega (arith, lent_at, now_at, lease.count, is))
            | inr ne ↦ others hart ne
          ]
  still_due (suc steps) is due hart =
      subst (λ (ds : List DueView). All (IsDueEdge (laid m l) hart) (due_at ds hart).edges) (sym due)
      (due_set r.due l.hart nothing_due (λ h d. All (IsDueEdge (laid m l) h) d.edges) row (λ k d below. absurd (omega arith))
      (λ h ne k d below. due_on h (others h ne) _ (p.due.edges h k d below)) hart)

  pub still_rung : l.hart < length m.harts → HasRung r.desk l new.desk → (hart : ℕ) → All (IsRung (laid m l)) (bells_of new.desk hart)
  still_rung there rung hart =
      subst (All (IsRung (laid m l))) (sym (rung.bells hart))
      (All-append (IsRung (laid m l)) (bells_of r.desk hart) (bells_rung l hart)
      (λ k d below.
      let old = p.bells hart k d below in
      let more = grown (get_or (bells_of r.desk hart) k d).source in
      record { source = omega (arith, old.source, harts); settled = omega (arith, old.settled, more) })
      (its_own (slice_index l.present.rung hart - slice_index l.base.rung hart)))
    where
      its_own : (n : ℕ) → All (IsRung (laid m l)) (replicate n (rung_bell l))
      its_own zero = λ k d below. absurd (omega arith)
      its_own (suc n) =
          All-cons (IsRung (laid m l)) (rung_bell l) (replicate n (rung_bell l)) (record {
            source = omega (arith, there, harts);
            settled = omega (arith, now_at);
          }) (its_own n)

  pub dues_stay : (steps : ℕ) → new.due ≡ due_after steps r.due l.hart → length new.due ≡ HART_ROW
  dues_stay zero due = ap length due ∙ p.due.many
  dues_stay (suc steps) due = ap length due ∙ (length-set r.due l.hart nothing_due ∙ p.due.many)

  -- what was due to another hart still is
  pub others_due : (steps : ℕ) → new.due ≡ due_after steps r.due l.hart → (hart : ℕ) → l.hart ≢ hart → due_at new.due hart ≡ due_at r.due hart
  others_due zero due hart ne = ap (λ ds. due_at ds hart) due
  others_due (suc steps) due hart ne = ap (λ ds. due_at ds hart) due ∙ get_or-set_other r.due l.hart hart nothing_due nothing_due (λ e. ne (sym e))

-- there is room for the inputs of a hart's next step
pub room_there : (log : List (List (ℕ × Input))) (hart n : ℕ) (inputs : List Input) → All (λ x. x.0 < n) (inputs_of log hart) → length inputs ≤ INPUT_LIMIT →
    length (inputs_at (inputs_of log hart) n) + length inputs ≤ INPUT_LIMIT
room_there log hart n inputs last few = omega (arith, ap length (none_from (inputs_of log hart) n n last (omega arith)), few)

pub logs_some : (steps : ℕ) (before : List (List (ℕ × Input))) (l : LeaseView) (after : List (List (ℕ × Input))) → steps ≢ 0 →
    AreAddedTo before l.hart (map (λ i. (l.base.count, i)) l.inputs) after → LogsInputs steps before l after
logs_some zero before l after some added = absurd (some refl)
logs_some (suc steps) before l after some added = added

-- what is logged, due and waiting still are inputs of the machine
pub still_inputs : (crew : ℕ) (r new : RecordingView) (l : LeaseView) (steps : ℕ) → l.hart < length r.due → All (IsInputOf crew) l.inputs →
    LogsInputs steps r.inputs l new.inputs → new.due ≡ due_after steps r.due l.hart → HasRung r.desk l new.desk → AreInputs crew r.inputs r.due r.desk →
    AreInputs crew new.inputs new.due new.desk
still_inputs crew r new l steps row given logs due rung p =
    record {
      logged = logged steps logs;
      due = still steps due;
      waiting = λ h. subst (All (λ w. IsInputOf crew w.input)) (sym (rung.others h)) (p.waiting h);
    }
  where
    logged : (steps : ℕ) → LogsInputs steps r.inputs l new.inputs → (h : ℕ) → All (λ x. IsInputOf crew x.1) (inputs_of new.inputs h)
    logged zero same h = subst (λ log. All (λ x. IsInputOf crew x.1) (inputs_of log h)) (sym same) (p.logged h)
    logged (suc steps) added h =
        elim (same_or_not l.hart h) [
          | inl same ↦
              subst (λ h. All (λ x. IsInputOf crew x.1) (inputs_of new.inputs h)) same
              (subst (All (λ x. IsInputOf crew x.1)) (sym added.row)
              (All-append (λ x. IsInputOf crew x.1) (inputs_of r.inputs l.hart) (map (λ i. (l.base.count, i)) l.inputs) (p.logged l.hart)
              (All-map (λ x. IsInputOf crew x.1) (λ i. (l.base.count, i)) l.inputs given)))
          | inr ne ↦ subst (All (λ x. IsInputOf crew x.1)) (sym (added.others h (λ e. ne (sym e)))) (p.logged h)
        ]

    still : (steps : ℕ) → new.due ≡ due_after steps r.due l.hart → (h : ℕ) → All (IsInputOf crew) (due_at new.due h).inputs
    still zero same h = subst (λ (ds : List DueView). All (IsInputOf crew) (due_at ds h).inputs) (sym same) (p.due h)
    still (suc steps) is h =
        subst (λ (ds : List DueView). All (IsInputOf crew) (due_at ds h).inputs) (sym is)
        (due_set r.due l.hart nothing_due (λ h d. All (IsInputOf crew) d.inputs) row (λ k d below. absurd (omega arith)) (λ h ne. p.due h) h)
