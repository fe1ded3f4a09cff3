-- Journals that go on.
use Rattle.std.proofs.Common.{◌≡◌, ◌==◌, ℕ, zero, suc, ◌+◌, ◌<◌, ◌≤◌, slice_index_or, List, [], ◌∷◌, ◌++◌, length, slice_set, Bool, true, false, Option, None}
use Rattle.std.proofs.Common.{Some, refl, ap, sym, ◌∙◌, append_assoc, append-nil, if◌then◌else◌, arith, slice_get, replicate, inl, inr, ◌≢◌, le_trans, subst}
use Rattle.std.proofs.lemmas.Bool.Decides.{nat_tests}
use Rattle.interleaving.specs.Stored.{run_from}
use Rattle.rv32_hart.specs.Hardware.{hardware}
use Rattle.guest_image.specs.Machine.{MachineState}
use Rattle.hart_lease.specs.declared.stretch.Stretch.{Stretch}
use Rattle.hart_lease.specs.declared.taken.Taken.{Taken}
use Rattle.hart_lease.specs.declared.lease_pages.Slot.{Slot}
use Rattle.hart_lease.specs.Slots.{slot_at, base_of}
use Rattle.hart_lease.specs.Leases.{LeaseView, laid, IsLent, IsLentBy}
use Rattle.interleaving.specs.Log.{Edge, Begins, counts_after, bump, turns_of}
use Rattle.interleaving.proofs.Put.{same_or_not, bump_same, bump_other}
use Rattle.ft_types.specs.Counts.{count_at}
use Rattle.input_log.specs.declared.Input.{Input}
use Rattle.hart_lease.specs.Turns.{turn_on, turns_in_a_row, turns_from}
use Rattle.hart_lease.specs.Runs.{Heard, journal_turns, StandsIn, IsLease, LeadsTo, harts_of, steps_taken, counts_of, MayGoTo, BeginsSchedule, HearsOn, added}
use Rattle.hart_lease.specs.OpenLeases.{OpenView, open_at}
use Rattle.hart_lease.proofs.journals.Runs.{run_from-append}

-- what the lease was lent stands in the machine
pub stands : (m : MachineState) (taken : List (Option Taken)) (l : LeaseView) → IsLent m taken l → StandsIn m l
stands m taken l p = record {
  state = p.state;
  as_many = p.as_many;
  contents = λ page bytes e. (p.pages page (lent_within l.slots page (slice_index_or l.bases page None) bytes e)) bytes e;
}
  where
    lent_within : (slots : List Slot) (page : ℕ) (kept : Option (List ℕ)) (bytes : List ℕ) → base_of (slot_at slots page) kept ≡ Some bytes →
        page < length slots
    lent_within [] page kept bytes e = cc
    lent_within (s ∷ slots) zero kept bytes e = omega arith
    lent_within (s ∷ slots) (suc page) kept bytes e = let h = lent_within slots page kept bytes e in omega arith

pub stands_ours : (lent : Option OpenView) (m : MachineState) (l : LeaseView) → IsLentBy lent m l → StandsIn m l
stands_ours None m l p = absurd p
stands_ours (Some lent) m l p = stands m lent.taken l p.is_lent

pub row-set : (leases : List (Option OpenView)) (i other : ℕ) → open_at leases other ≡ None → open_at (slice_set leases i None) other ≡ None
row-set [] i other e = e
row-set (x ∷ leases) zero zero e = refl
row-set (x ∷ leases) zero (suc other) e = e
row-set (x ∷ leases) (suc i) zero e = e
row-set (x ∷ leases) (suc i) (suc other) e = row-set leases i other e

pub row-set_some : (leases : List (Option OpenView)) (i other : ℕ) (lent : OpenView) → open_at (slice_set leases i None) other ≡ Some lent →
    open_at leases other ≡ Some lent
row-set_some [] i other lent e = e
row-set_some (x ∷ leases) zero zero lent e = cc
row-set_some (x ∷ leases) zero (suc other) lent e = e
row-set_some (x ∷ leases) (suc i) zero lent e = e
row-set_some (x ∷ leases) (suc i) (suc other) lent e = row-set_some leases i other lent e

-- ---- schedules

begins_append : (edges : List Edge) (cut now : ℕ → ℕ) (front rest : List ℕ) → Begins edges cut now front → Begins edges cut (counts_after now front) rest →
    Begins edges cut now (front ++ rest)
begins_append edges cut now [] rest p q = q
begins_append edges cut now (h ∷ front) rest p q = (p.0, begins_append edges cut (bump now h) front rest p.1 q)

counts_after-append : (now : ℕ → ℕ) (front rest : List ℕ) → counts_after now (front ++ rest) ≡ counts_after (counts_after now front) rest
counts_after-append now [] rest = refl
counts_after-append now (h ∷ front) rest = counts_after-append (bump now h) front rest

-- a hart that has been let go goes on to its stop
begins_row : (edges : List Edge) (cut now : ℕ → ℕ) (hart stop n : ℕ) → MayGoTo edges now hart stop → now hart + n ≤ stop → stop ≤ cut hart →
    Begins edges cut now (replicate n hart)
begins_row edges cut now hart stop zero may le within = tt
begins_row edges cut now hart stop (suc zero) may le within = ((omega arith, may.met), tt)
begins_row edges cut now hart stop (suc (suc n)) may le within =
    let next : bump now hart hart ≡ now hart + 1 = bump_same now hart in (
      (omega arith, may.met),
      begins_row edges cut (bump now hart) hart stop (suc n) (record {
        met = λ e at own here. let no = may.first e at own (omega (arith, here, next)) in absurd (omega (arith, no, here, next, le));
        first = λ e at own above. may.first e at own (omega (arith, above, next));
      }) (omega (arith, next, le)) within,
    )

-- where the counts of the others have only grown
pub may_still_go : (edges : List Edge) (now later : ℕ → ℕ) (hart stop : ℕ) → MayGoTo edges now hart stop → later hart ≡ now hart →
    ((other : ℕ) → now other ≤ later other) → MayGoTo edges later hart stop
may_still_go edges now later hart stop may same grown = record {
  met = λ e at own here. le_trans (may.met e at own (here ∙ same)) (grown e.other);
  first = λ e at own above. may.first e at own (omega (arith, above, same));
}

counts_row : (now : ℕ → ℕ) (hart n : ℕ) → counts_after now (replicate n hart) hart ≡ now hart + n
counts_row now hart zero = omega arith
counts_row now hart (suc n) = counts_row (bump now hart) hart n ∙ omega (arith, bump_same now hart)

counts_row_other : (now : ℕ → ℕ) (hart n other : ℕ) → (hart ≡ other → ⊥) → counts_after now (replicate n hart) other ≡ now other
counts_row_other now hart zero other ne = refl
counts_row_other now hart (suc n) other ne = counts_row_other (bump now hart) hart n other ne ∙ bump_other now hart other ne

pub harts_of-append : (front rest : List Stretch) → harts_of (front ++ rest) ≡ harts_of front ++ harts_of rest
harts_of-append [] rest = refl
harts_of-append (s ∷ front) rest =
    ap (λ l. replicate s.steps s.hart ++ l) (harts_of-append front rest) ∙ sym (append_assoc (replicate s.steps s.hart) (harts_of front) (harts_of rest))

harts_added : (journal : List Stretch) (hart steps : ℕ) → harts_of (added journal hart steps) ≡ harts_of journal ++ replicate steps hart
harts_added journal hart steps = of (steps == 0) refl
  where
    of : (b : Bool) → (steps == 0) ≡ b →
        harts_of (if b then journal else journal ++ record { hart = hart; steps = steps } ∷ []) ≡ harts_of journal ++ replicate steps hart
    of true e =
        let none : steps ≡ 0 = grind (arith, nat_tests) in
        rw none (sym (append-nil (harts_of journal)))
    of false e =
        harts_of-append journal (record { hart = hart; steps = steps } ∷ []) ∙ ap (λ l. harts_of journal ++ l) (append-nil (replicate steps hart))

-- the turns of an order

pub turns_of-append : (heard : Heard) (now : ℕ → ℕ) (front rest : List ℕ) →
    turns_of heard now (front ++ rest) ≡ turns_of heard now front ++ turns_of heard (counts_after now front) rest
turns_of-append heard now [] rest = refl
turns_of-append heard now (h ∷ front) rest = ap (λ ts. turn_on h (heard h (now h)) ∷ ts) (turns_of-append heard (bump now h) front rest)

grows : (now : ℕ → ℕ) (order : List ℕ) (hart : ℕ) → now hart ≤ counts_after now order hart
grows now [] hart = omega arith
grows now (h ∷ order) hart =
    let more = grows (bump now h) order hart in
    elim (same_or_not h hart) [
      | inl same ↦ let next : bump now h hart ≡ now hart + 1 = subst (λ k. bump now h k ≡ now k + 1) same (bump_same now h) in omega (arith, more, next)
      | inr ne ↦ omega (arith, more, bump_other now h hart ne)
    ]

-- inputs at counts that it does not reach do not matter
pub turns_of-same : (old new : Heard) (now : ℕ → ℕ) (order : List ℕ) →
    ((hart n : ℕ) → n < counts_after now order hart → new hart n ≡ old hart n) → turns_of new now order ≡ turns_of old now order
turns_of-same old new now [] same = refl
turns_of-same old new now (h ∷ order) same =
    let here : now h < counts_after (bump now h) order h = (let more = grows (bump now h) order h in omega (arith, more, bump_same now h)) in
    ap (λ is. turn_on h is ∷ turns_of new (bump now h) order) (same h (now h) here)
    ∙ ap (λ ts. turn_on h (old h (now h)) ∷ ts) (turns_of-same old new (bump now h) order same)

silent_row : (heard : Heard) (now : ℕ → ℕ) (hart steps : ℕ) → ((n : ℕ) → now hart ≤ n → n < now hart + steps → heard hart n ≡ []) →
    turns_of heard now (replicate steps hart) ≡ turns_in_a_row hart steps
silent_row heard now hart zero silent = refl
silent_row heard now hart (suc steps) silent =
    let next : bump now hart hart ≡ now hart + 1 = bump_same now hart in
    ap (λ is. turn_on hart is ∷ turns_of heard (bump now hart) (replicate steps hart)) (silent (now hart) (omega arith) (omega arith))
    ∙ ap (λ ts. turn_on hart [] ∷ ts)
    (silent_row heard (bump now hart) hart steps (λ n from below. silent n (omega (arith, from, next)) (omega (arith, below, next))))

-- a hart that hears these inputs at its count, and then none
first_row : (heard : Heard) (now : ℕ → ℕ) (hart steps : ℕ) (inputs : List Input) → (steps ≢ 0 → heard hart (now hart) ≡ inputs) →
    ((n : ℕ) → now hart < n → n < now hart + steps → heard hart n ≡ []) → turns_of heard now (replicate steps hart) ≡ turns_from inputs hart steps
first_row heard now hart zero inputs first later = refl
first_row heard now hart (suc steps) inputs first later =
    let next : bump now hart hart ≡ now hart + 1 = bump_same now hart in
    ap (λ is. turn_on hart is ∷ turns_of heard (bump now hart) (replicate steps hart)) (first (λ none. absurd (omega (arith, none))))
    ∙ ap (λ ts. turn_on hart inputs ∷ ts)
    (silent_row heard (bump now hart) hart steps (λ n from below. later n (omega (arith, from, next)) (omega (arith, below, next))))

pub get-set_here : {A : Type 0} (xs : List A) (i : ℕ) (v w : A) → slice_get xs i ≡ Some w → slice_get (slice_set xs i v) i ≡ Some v
get-set_here [] i v w e = cc
get-set_here (x ∷ xs) zero v w e = refl
get-set_here (x ∷ xs) (suc i) v w e = get-set_here xs i v w e

pub get-set_there : {A : Type 0} (xs : List A) (i : ℕ) (v : A) (other : ℕ) → (i ≡ other → ⊥) → slice_get (slice_set xs i v) other ≡ slice_get xs other
get-set_there [] i v other ne = refl
get-set_there (x ∷ xs) zero v zero ne = absurd (ne refl)
get-set_there (x ∷ xs) zero v (suc other) ne = refl
get-set_there (x ∷ xs) (suc i) v zero ne = refl
get-set_there (x ∷ xs) (suc i) v (suc other) ne = get-set_there xs i v other (λ e. ne (ap suc e))

-- other harts stay as they were
pub others_laid : (m : MachineState) (l : LeaseView) (hart : ℕ) → l.hart ≢ hart → counts_of (laid m l) hart ≡ counts_of m hart
others_laid m l hart ne = ap steps_taken (get-set_there m.harts l.hart l.present hart ne)

module _ (start m : MachineState) (journal : List Stretch) (l : LeaseView) (stops : List ℕ) (p : IsLease l) (on : StandsIn m l)
    (counted : (hart : ℕ) → counts_after (counts_of start) (harts_of journal) hart ≡ counts_of m hart) where
  abbrev before : ℕ → ℕ
  before = counts_after (counts_of start) (harts_of journal)

  base_count : before l.hart ≡ l.base.count
  base_count = counted l.hart ∙ ap steps_taken on.state

  pub counts_go_on : (hart : ℕ) → counts_after (counts_of start) (harts_of (added journal l.hart l.steps)) hart ≡ counts_of (laid m l) hart
  counts_go_on hart =
      ap (λ (hs : List ℕ). counts_after (counts_of start) hs hart) (harts_added journal l.hart l.steps)
      ∙ ap (λ (f : ℕ → ℕ). f hart) (counts_after-append (counts_of start) (harts_of journal) (replicate l.steps l.hart))
      ∙ elim (same_or_not l.hart hart) [
        | inl same ↦
            ap (counts_after before (replicate l.steps l.hart)) (sym same)
            ∙ counts_row before l.hart l.steps
            ∙ omega (arith, base_count, p.count)
            ∙ sym (ap steps_taken (get-set_here m.harts l.hart l.present l.base on.state))
            ∙ ap (counts_of (laid m l)) same
        | inr ne ↦
            counts_row_other before l.hart l.steps hart ne
            ∙ counted hart
            ∙ sym (ap steps_taken (get-set_there m.harts l.hart l.present hart ne))
      ]

  -- the lease's steps come behind the journal's
  pub turns_go_on : (old new : Heard) → HearsOn old new (counts_of m) l →
      journal_turns new start (added journal l.hart l.steps) ≡ journal_turns old start journal ++ turns_from l.inputs l.hart l.steps
  turns_go_on old new hears =
      ap (turns_of new (counts_of start)) (harts_added journal l.hart l.steps)
      ∙ turns_of-append new (counts_of start) (harts_of journal) (replicate l.steps l.hart)
      ∙ ap (λ ts. ts ++ turns_of new before (replicate l.steps l.hart))
      (turns_of-same old new (counts_of start) (harts_of journal) (λ hart n lt. hears.before hart n (omega (arith, lt, counted hart))))
      ∙ ap (λ ts. journal_turns old start journal ++ ts)
      (first_row new before l.hart l.steps l.inputs (λ some. ap (new l.hart) (counted l.hart) ∙ hears.first some)
      (λ n from below. hears.later n (omega (arith, from, counted l.hart)) (omega (arith, below, base_count, p.count))))

  -- and lead to the machine with the lease's hart and pages
  pub run_goes_on : (old new : Heard) → HearsOn old new (counts_of m) l → length m.pages ≡ length start.pages → LeadsTo old start journal m →
      LeadsTo new start (added journal l.hart l.steps) (laid m l)
  run_goes_on old new hears pages run =
      rw (turns_go_on old new hears)
      (run_from-append (hardware (length start.pages)) (Some start) (journal_turns old start journal) (turns_from l.inputs l.hart l.steps)
      ∙ ap (λ (o : Option MachineState). run_from (hardware (length start.pages)) o (turns_from l.inputs l.hart l.steps)) run
      ∙ ap (λ (k : ℕ). run_from (hardware k) (Some m) (turns_from l.inputs l.hart l.steps)) (sym pages)
      ∙ p.runs m on)

  pub grown : (hart : ℕ) → counts_of m hart ≤ counts_of (laid m l) hart
  grown hart =
      elim (same_or_not l.hart hart) [
        | inl same ↦
            rw (← same)
            (let after : counts_of (laid m l) l.hart ≡ l.present.count = ap steps_taken (get-set_here m.harts l.hart l.present l.base on.state) in
            let first : counts_of m l.hart ≡ l.base.count = ap steps_taken on.state in
            omega (arith, after, first, p.count))
        | inr ne ↦
            let kept : counts_of (laid m l) hart ≡ counts_of m hart = ap steps_taken (get-set_there m.harts l.hart l.present hart ne) in
            omega (arith, kept)
      ]

  pub schedule_goes_on : (edges : List Edge) → l.stop ≤ count_at stops l.hart → MayGoTo edges (counts_of m) l.hart l.stop →
      BeginsSchedule edges stops start journal → BeginsSchedule edges stops start (added journal l.hart l.steps)
  schedule_goes_on edges stop may begins =
      rw (harts_added journal l.hart l.steps)
      (begins_append edges (count_at stops) (counts_of start) (harts_of journal) (replicate l.steps l.hart) begins
      (elim p.within [
        | inl none ↦ rw none tt
        | inr le ↦
            begins_row edges (count_at stops) before l.hart l.stop l.steps
            (may_still_go edges (counts_of m) before l.hart l.stop may (counted l.hart) (λ other. omega (arith, counted other)))
            (omega (arith, base_count, p.count, le)) stop
      ]))

-- what the book keeps of the stop of an open lease holds of the lease's
pub of_stop : (P : ℕ → Type 0) (lent : Option OpenView) (m : MachineState) (l : LeaseView) → IsLentBy lent m l →
    ((o : OpenView) → lent ≡ Some o → P o.stop) → P l.stop
of_stop P None m l ours has = absurd ours
of_stop P (Some o) m l ours has = subst P (sym ours.stop) (has o refl)

-- another hart's open lease stays
pub row-set_other : (leases : List (Option OpenView)) (i other : ℕ) (lent : OpenView) → open_at (slice_set leases i None) other ≡ Some lent →
    i < length leases → i ≢ other
row-set_other [] i other lent e lt = absurd (omega arith)
row-set_other (x ∷ leases) zero zero lent e lt = cc
row-set_other (x ∷ leases) zero (suc other) lent e lt = λ same. absurd (omega (arith, same))
row-set_other (x ∷ leases) (suc i) zero lent e lt = λ same. absurd (omega (arith, same))
row-set_other (x ∷ leases) (suc i) (suc other) lent e lt =
    let ne = row-set_other leases i other lent e (omega arith) in λ same. ne (omega (arith, same))

pub row_within : (leases : List (Option OpenView)) (hart : ℕ) (m : MachineState) (l : LeaseView) → IsLentBy (open_at leases hart) m l → hart < length leases
row_within [] hart m l ours = absurd ours
row_within (x ∷ leases) zero m l ours = omega arith
row_within (x ∷ leases) (suc hart) m l ours = let lt = row_within leases hart m l ours in omega (arith, lt)
