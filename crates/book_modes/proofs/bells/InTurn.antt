-- Bells that are heard in their turn, over the steps of a lease that comes back.
use Rattle.std.proofs.Common.{◌≡◌, ◌≢◌, ◌⊎◌, inl, inr, ℕ, zero, suc, ◌+◌, ◌-◌, ◌<◌, ◌≤◌, List, [], ◌++◌, length, map, replicate, slice_index, slice_get, Some}
use Rattle.std.proofs.Common.{Contains, refl, ap, sym, subst, ◌∙◌, arith, append_assoc, append-nil}
use Rattle.std.specs.List.{count_by}
use Rattle.std.proofs.lemmas.Option.{slice_get_within}
use Rattle.std.proofs.lemmas.List.Elements.{Contains-append_left, Contains-append_right, Contains-append_cases}
use Rattle.interleaving.specs.Lists.{put}
use Rattle.interleaving.specs.Machine.{after, step_of, counts, steps, Runs, run}
use Rattle.interleaving.specs.Log.{Edge, Place, Before, Own, Across, Through, place}
use Rattle.interleaving.specs.Cuts.{IsEnough}
use Rattle.interleaving.specs.Stored.{view}
use Rattle.interleaving.proofs.Put.{same_or_not, put_same, put_other}
use Rattle.interleaving.proofs.Cuts.{here_or_later, same_order}
use Rattle.interleaving.proofs.Runs.{in_turn}
use Rattle.input_log.specs.declared.Input.{Input}
use Rattle.input_log.specs.declared.WaitingBell.{WaitingBell}
use Rattle.input_log.specs.Waiting.{Queues, bells_of, AreOthers}
use Rattle.edge_log.specs.declared.Edge.{Edge as edge_found}
use Rattle.edge_log.specs.EdgeLog.{edge_as}
use Rattle.edge_log.proofs.Logs.{contains_map}
use Rattle.rv32_hart.specs.Bells.{IsRungOnce, is_bell_from}
use Rattle.rv32_hart.specs.Hardware.{hardware}
use Rattle.guest_image.specs.Machine.{MachineState}
use Rattle.hart_lease.specs.Recorded.{system}
use Rattle.book_modes.specs.Silences.{rung_by, heard_by}
use Rattle.hart_lease.specs.Turns.{turn_on, turns_in_a_row, turns_from}
use Rattle.hart_lease.specs.Leases.{LeaseView, rung_bell, bells_rung}
use Rattle.book_modes.specs.Dues.{DueView, nothing_due, due_at, bell_edges}
use Rattle.book_modes.specs.Recordings.{HasRung, due_after}
use Rattle.book_modes.specs.Hearings.{HartStep, Rings, Hears, IsPair, HearsInTurn, bells_from, WasRung, AreNext, KeepsBells}
use Rattle.book_modes.proofs.bells.Numbers.{next_more, next_heard, next_at, next_rung, from_append, from_same, from_other, from_is, has_its_edge}
use Rattle.book_modes.proofs.ledger.NewDue.{due_set}
use Rattle.book_modes.proofs.bells.Steps.{Now, HasRows, rung_more, rows_run, heard_from, others_from, silent_row, step_below, ringing_step}

-- more edges order more
pub before_more : (few all : List Edge) → ((e : Edge) → Contains few e → Contains all e) → {a b : Place} → Before few a b → Before all a b
before_more few all more (Own same lt) = Own same lt
before_more few all more (Across e is_edge from below own later) = Across e (more e is_edge) from below own later
before_more few all more (Through first second) = Through (before_more few all more first) (before_more few all more second)

-- What stays due, once a hart has gone so many steps.

-- its bells were heard at the first
abbrev left_of : ℕ → (ℕ → List WaitingBell) → ℕ → ℕ → List WaitingBell
left_of zero bells hart = bells
left_of (suc n) bells hart = put bells hart []

next_left : (pages : ℕ) (now : Now) (hart n source target : ℕ) (inputs : List Input) (bells : ℕ → List WaitingBell) (P : ℕ → WaitingBell → Type 0)
    (rung : ℕ) (desk : List WaitingBell) → Runs (system pages) now (turns_from inputs hart n) → HasRows pages (source + 1) now →
    count_by (is_bell_from source) inputs ≡ length (bells_from source (bells hart)) →
    AreNext P (heard_by (now.harts target) source) rung (bells_from source (bells target ++ desk)) →
    AreNext P (heard_by ((run (system pages) now (turns_from inputs hart n)).harts target) source) rung (bells_from source (left_of n bells hart target ++
    desk))
next_left pages now hart zero source target inputs bells P rung desk runs rows told next = next
next_left pages now hart (suc n) source target inputs bells P rung desk runs rows told next =
    elim (same_or_not hart target) [
      | inl same ↦
          subst (λ t. AreNext P (heard_by (later.harts t) source) rung (bells_from source (put bells hart [] t ++ desk))) same
          (subst (λ bs. AreNext P (heard_by (later.harts hart) source) rung (bells_from source (bs ++ desk))) (sym (put_same bells hart hart [] refl))
          (subst (λ h. AreNext P h rung (bells_from source desk))
          (sym (heard_from pages now hart n source inputs runs rows ∙ ap (λ k. heard_by (now.harts hart) source + k) told))
          (next_heard P (heard_by (now.harts hart) source) rung (bells_from source (bells hart)) (bells_from source desk)
          (subst (AreNext P (heard_by (now.harts hart) source) rung) (from_append source (bells hart) desk)
          (subst (λ t. AreNext P (heard_by (now.harts t) source) rung (bells_from source (bells t ++ desk))) (sym same) next)))))
      | inr ne ↦
          subst (λ o. AreNext P (heard_by o source) rung (bells_from source (put bells hart [] target ++ desk)))
          (sym (others_from pages now hart (suc n) target inputs ne))
          (subst (λ bs. AreNext P (heard_by (now.harts target) source) rung (bells_from source (bs ++ desk))) (sym (put_other bells hart target [] ne)) next)
    ]
  where
    later : Now
    later = run (system pages) now (turns_from inputs hart (suc n))

told_left : (due : List DueView) (hart n : ℕ) (bells : ℕ → List WaitingBell) → hart < length due →
    ((h source : ℕ) → count_by (is_bell_from source) (due_at due h).inputs ≡ length (bells_from source (bells h))) →
    (h source : ℕ) → count_by (is_bell_from source) (due_at (due_after n due hart) h).inputs ≡ length (bells_from source (left_of n bells hart h))
told_left due hart zero bells row told h source = told h source
told_left due hart (suc n) bells row told h source =
    due_set due hart nothing_due (λ h d. count_by (is_bell_from source) d.inputs ≡ length (bells_from source (put bells hart [] h))) row
    (sym (ap (λ bs. length (bells_from source bs)) (put_same bells hart hart [] refl)))
    (λ other ne. told other source ∙ ap (λ bs. length (bells_from source bs)) (sym (put_other bells hart other [] ne))) h

owed_left : (pages : ℕ) (now : Now) (due : List DueView) (hart n : ℕ) (inputs : List Input) (bells : ℕ → List WaitingBell) → hart < length due →
    ((h : ℕ) → (due_at due h).edges ≡ bell_edges h (counts (system pages) now h) (bells h)) →
    (h : ℕ) → (due_at (due_after n due hart) h).edges ≡
    bell_edges h (counts (system pages) (run (system pages) now (turns_from inputs hart n)) h) (left_of n bells hart h)
owed_left pages now due hart zero inputs bells row owed h = owed h
owed_left pages now due hart (suc n) inputs bells row owed h =
    due_set due hart nothing_due (λ h d. d.edges ≡ bell_edges h (counts (system pages) later h) (put bells hart [] h)) row
    (sym (ap (bell_edges hart (counts (system pages) later hart)) (put_same bells hart hart [] refl)))
    (λ other ne.
    owed other ∙
    (ap (λ o. bell_edges other ((system pages).count o) (bells other)) (sym (others_from pages now hart (suc n) other inputs ne)) ∙
    ap (bell_edges other (counts (system pages) later other)) (sym (put_other bells hart other [] ne)))) h
  where
    later : Now
    later = run (system pages) now (turns_from inputs hart (suc n))

-- only the first step hears
first_hears : (pages : ℕ) (now : Now) (hart n source target k : ℕ) (inputs : List Input) (t : HartStep) →
    Contains (steps (system pages) now (turns_from inputs hart n)) t → Hears t source target k → step_of (system pages) now (turn_on hart inputs) ≡ t
first_hears pages now hart zero source target k inputs t (i, below, is) hears = absurd (omega (arith, below))
first_hears pages now hart (suc n) source target k inputs t i hears =
    elim (here_or_later s (steps (system pages) (after now s) (turns_in_a_row hart n)) t i) [
      | inl is ↦ is
      | inr later ↦
          let none : count_by (is_bell_from source) t.input ≡ 0 = ap (count_by (is_bell_from source)) (silent_row pages (after now s) hart n t later) in
          absurd (omega (arith, none, hears.from, hears.below))
    ]
  where
    s : HartStep
    s = step_of (system pages) now (turn_on hart inputs)

-- The lease of a hart comes back.
module _ (start : MachineState) (now : Now) (past : List HartStep) (edges : List Edge) (due : List DueView) (desk : List Queues)
    (kept : KeepsBells start now past edges due desk) (l : LeaseView) (base : now.harts l.hart ≡ Some l.base)
    (runs : Runs (system (length start.pages)) now (turns_from l.inputs l.hart l.steps))
    (present : (run (system (length start.pages)) now (turns_from l.inputs l.hart l.steps)).harts l.hart ≡ Some l.present)
    (so_far : (s : HartStep) → Contains past s → (system (length start.pages)).count s.found < counts (system (length start.pages)) now s.hart)
    (rings : IsRungOnce l.base.harts l.base.rung l.present.rung) (inputs : l.inputs ≡ (due_at due l.hart).inputs)
    (owed : (e : edge_found) → Contains (due_at due l.hart).edges e → Contains l.edges e) (row : l.hart < length due)
    (due_left : List DueView) (due_is : due_left ≡ due_after l.steps due l.hart) (desk_left : List Queues) (desk_is : HasRung desk l desk_left) where
  abbrev pages : ℕ
  pages = length start.pages

  abbrev later : Now
  later = run (system pages) now (turns_from l.inputs l.hart l.steps)

  abbrev new : List HartStep
  new = steps (system pages) now (turns_from l.inputs l.hart l.steps)

  abbrev all : List Edge
  all = edges ++ map edge_as l.edges

  rows : (source : ℕ) → source < length start.harts → HasRows pages (source + 1) now
  rows source lt hart h is = let le = kept.rows hart h is in omega (arith, le, lt)

  -- What was rung was rung.
  still_rung : (source target k : ℕ) (b : WaitingBell) → WasRung start past source target k b → WasRung start (past ++ new) source target k b
  still_rung source target k b (inl before) = inl before
  still_rung source target k b (inr (s, is_in, is, below)) = inr (s, Contains-append_left past new s is_in, is, below)

  -- the bell that it rang
  newly_rung : (target k : ℕ) → rung_by (now.harts l.hart) target ≤ k → k < rung_by (later.harts l.hart) target →
      WasRung start (past ++ new) l.hart target k (rung_bell l)
  newly_rung target k from below =
      let (s, is_in, is) = ringing_step pages now (turns_from l.inputs l.hart l.steps) l.hart target k runs from below in
      let under = step_below pages now (turns_from l.inputs l.hart l.steps) s runs is_in in
      inr (
        s,
        Contains-append_right past new s is_in,
        is,
        subst (λ n. (system pages).count s.found < n) (ap (counts (system pages) later) is.own ∙ ap (system pages).count present) under,
      )

  rung_on : (target : ℕ) →
      rung_by (later.harts l.hart) target ≡ rung_by (now.harts l.hart) target + (slice_index l.present.rung target - slice_index l.base.rung target)
  rung_on target =
      let was : rung_by (now.harts l.hart) target ≡ slice_index l.base.rung target = ap (λ o. rung_by o target) base in
      let is : rung_by (later.harts l.hart) target ≡ slice_index l.present.rung target = ap (λ o. rung_by o target) present in
      elim (rung_more l.base.harts l.base.rung l.present.rung target rings) [
        | inl same ↦ omega (arith, was, is, same)
        | inr more ↦ omega (arith, was, is, more)
      ]

  -- The bells that wait.

  desk_next : (source target : ℕ) (bells : List WaitingBell) →
      AreNext (WasRung start (past ++ new) source target) (heard_by (later.harts target) source) (rung_by (now.harts source) target)
      (bells_from source (bells ++ bells_of desk target)) →
      AreNext (WasRung start (past ++ new) source target) (heard_by (later.harts target) source) (rung_by (later.harts source) target)
      (bells_from source (bells ++ bells_of desk_left target))
  desk_next source target bells next =
      subst (λ bs. AreNext P heard (rung_by (later.harts source) target) (bells_from source (bells ++ bs))) (sym (desk_is.bells target))
      (subst (λ bs. AreNext P heard (rung_by (later.harts source) target) (bells_from source bs)) (append_assoc bells (bells_of desk target)
      (bells_rung l target))
      (subst (AreNext P heard (rung_by (later.harts source) target)) (sym (from_append source (bells ++ bells_of desk target) (bells_rung l target)))
      (of (same_or_not l.hart source))))
    where
      P : ℕ → WaitingBell → Type 0
      P = WasRung start (past ++ new) source target

      heard : ℕ
      heard = heard_by (later.harts target) source

      front : List WaitingBell
      front = bells_from source (bells ++ bells_of desk target)

      many : ℕ
      many = slice_index l.present.rung target - slice_index l.base.rung target

      of : (l.hart ≡ source) ⊎ (l.hart ≢ source) → AreNext P heard (rung_by (later.harts source) target) (front ++ bells_from source (bells_rung l target))
      of (inl same) =
          subst (λ bs. AreNext P heard (rung_by (later.harts source) target) (front ++ bs)) (sym (from_same source many (rung_bell l) same))
          (subst (λ n. AreNext P heard n (front ++ replicate many (rung_bell l)))
          (subst (λ h. rung_by (now.harts h) target + many ≡ rung_by (later.harts h) target) same (sym (rung_on target)))
          (next_rung P heard (rung_by (now.harts source) target) many front (rung_bell l) next
          (subst (λ h. (n : ℕ) → rung_by (now.harts h) target ≤ n → n < rung_by (now.harts h) target + many → WasRung start (past ++ new) h target n
          (rung_bell l)) same
          (λ n from below. newly_rung target n from (omega (arith, below, rung_on target))))))
      of (inr ne) =
          subst (λ bs. AreNext P heard (rung_by (later.harts source) target) (front ++ bs)) (sym (from_other source many (rung_bell l) ne))
          (subst (AreNext P heard (rung_by (later.harts source) target)) (sym (append-nil front))
          (subst (λ o. AreNext P heard (rung_by o target) front) (sym (others_from pages now l.hart l.steps source l.inputs ne)) next))

  -- What was heard was heard in its turn.

  -- the place of the lease's first step
  abbrev turn : Place
  turn = record { hart = l.hart; step = counts (system pages) now l.hart }

  -- a step that rang the bell comes before
  abbrev IsAfter : ℕ → ℕ → ℕ → Place → Type 0
  IsAfter source target k at = (s : HartStep) × Contains (past ++ new) s × Rings s source target k × Before all (place (system pages) s) at

  -- a bell that was due has its edge
  in_order : (source k : ℕ) (b : WaitingBell) (s : HartStep) → Contains (bells_from source (kept.due_bells l.hart)) b → Contains past s →
      Rings s source l.hart k →
      (system pages).count s.found < b.after → Before all (place (system pages) s) turn
  in_order source k b s among is_in rung below =
      elim (same_or_not source l.hart) [
        | inl same ↦
            Own (rung.own ∙ same)
            (subst (λ h. (system pages).count s.found < counts (system pages) now h) (rung.own ∙ same) (so_far s is_in))
        | inr ne ↦
            let (own, waits) = from_is source (kept.due_bells l.hart) b among in
            let edge : edge_found = record { hart = l.hart; at = counts (system pages) now l.hart; other = b.source; after = b.after } in
            let is_due : Contains (due_at due l.hart).edges edge =
            subst (λ es. Contains es edge) (sym (kept.owed l.hart))
            (has_its_edge l.hart (counts (system pages) now l.hart) (kept.due_bells l.hart) b waits (λ e. ne (sym own ∙ e))) in
            Across (edge_as edge) (Contains-append_right edges (map edge_as l.edges) (edge_as edge) (contains_map edge_as l.edges edge (owed edge is_due)))
            (rung.own ∙ sym own) below refl (omega arith)
      ]

  heard_first : (source k : ℕ) → IsPair (view (hardware (length start.pages)) start) source l.hart →
      rung_by (slice_get start.harts source) l.hart ≤ k → heard_by (now.harts l.hart) source ≤ k →
      k < heard_by (now.harts l.hart) source + count_by (is_bell_from source) l.inputs → IsAfter source l.hart k turn
  heard_first source k pair since from below =
      let due_here = bells_from source (kept.due_bells l.hart) in
      let many : count_by (is_bell_from source) l.inputs ≡ length due_here = ap (count_by (is_bell_from source)) inputs ∙ kept.told l.hart source in
      let (b, among, was) =
      next_at (WasRung start past source l.hart) (heard_by (now.harts l.hart) source) (rung_by (now.harts source) l.hart) due_here
      (bells_from source (bells_of desk l.hart)) k
      (subst (AreNext (WasRung start past source l.hart) (heard_by (now.harts l.hart) source) (rung_by (now.harts source) l.hart))
      (from_append source (kept.due_bells l.hart) (bells_of desk l.hart)) (kept.next source l.hart pair))
      from (omega (arith, below, many)) in
      elim was [
        | inl before ↦ absurd (omega (arith, since, before))
        | inr found ↦
            let (s, is_in, rung, under) = found in
            (s, Contains-append_left past new s is_in, rung, in_order source k b s among is_in rung under)
      ]

  heard_new : (source target k : ℕ) (t : HartStep) → IsPair (view (hardware (length start.pages)) start) source target →
      rung_by (slice_get start.harts source) target ≤ k → Contains new t →
      Hears t source target k → (s : HartStep) × Contains (past ++ new) s × Rings s source target k × Before all (place (system pages) s)
      (place (system pages) t)
  heard_new source target k t pair since i hears =
      let is = first_hears pages now l.hart l.steps source target k l.inputs t i hears in
      let first : Hears (step_of (system pages) now (turn_on l.hart l.inputs)) source target k = subst (λ t. Hears t source target k) (sym is) hears in
      subst (λ t. IsAfter source target k (place (system pages) t)) is
      (subst (λ h. IsPair (view (hardware (length start.pages)) start) source h → rung_by (slice_get start.harts source) h ≤ k →
      IsAfter source h k turn) first.own
      (λ pair since. heard_first source k pair since first.from first.below) pair since)

  in_turn_left : HearsInTurn (length start.pages) all (view (hardware (length start.pages)) start) (past ++ new)
  in_turn_left source target k t pair since i hears =
      elim (Contains-append_cases past new t i) [
        | inl old ↦
            let (s, is_in, is, before) = kept.in_turn source target k t pair since old hears in
            (s, Contains-append_left past new s is_in, is, before_more edges all (λ e at. Contains-append_left edges (map edge_as l.edges) e at) before)
        | inr fresh ↦ heard_new source target k t pair since fresh hears
      ]

  pub settled_bells : KeepsBells start later (past ++ new) all due_left desk_left
  settled_bells =
      record {
        rows = rows_run pages (length start.harts) now (turns_from l.inputs l.hart l.steps) runs kept.rows;
        due_bells = left_of l.steps kept.due_bells l.hart;
        told = subst (λ (ds : List DueView). (h source : ℕ) → count_by (is_bell_from source) (due_at ds h).inputs ≡ length
            (bells_from source (left_of l.steps kept.due_bells l.hart h)))
            (sym due_is) (told_left due l.hart l.steps kept.due_bells row kept.told);
        owed = subst (λ (ds : List DueView). (h : ℕ) → (due_at ds h).edges ≡ bell_edges h (counts (system pages) later h)
            (left_of l.steps kept.due_bells l.hart h))
            (sym due_is) (owed_left pages now due l.hart l.steps l.inputs kept.due_bells row kept.owed);
        next = λ source target pair.
            desk_next source target (left_of l.steps kept.due_bells l.hart target)
            (next_left pages now l.hart l.steps source target l.inputs kept.due_bells (WasRung start (past ++ new) source target)
            (rung_by (now.harts source) target)
            (bells_of desk target) runs (rows source (slice_get_within start.harts source pair.is_source.0 pair.is_source.1))
            (ap (count_by (is_bell_from source)) inputs ∙ kept.told l.hart source)
            (next_more (WasRung start past source target) (WasRung start (past ++ new) source target) (still_rung source target) _ _ _
            (kept.next source target pair)));
        others = λ hart. subst AreOthers (sym (desk_is.others hart)) (kept.others hart);
        in_turn = in_turn_left;
      }

-- Fewer edges, which imply the others from the start on, are enough.
pub turns_few : (few all : List Edge) (start : MachineState) (past : List HartStep) (begin : ℕ → ℕ) → IsEnough few all begin →
    ((s : HartStep) → Contains past s → begin s.hart ≤ (system (length start.pages)).count s.found) →
    HearsInTurn (length start.pages) all (view (hardware (length start.pages)) start) past →
    HearsInTurn (length start.pages) few (view (hardware (length start.pages)) start) past
turns_few few all start past begin enough from in_turn source target k t pair since i hears =
    let (s, is_in, rung, before) = in_turn source target k t pair since i hears in
    let order = same_order few all begin enough in
    (s, is_in, rung, (order.before (place (system (length start.pages)) s) (place (system (length start.pages)) t) (from s is_in)).1 before)
