-- Books that begin again, and books without steps that obey another leg.
use Rattle.std.proofs.Common.{◌≡◌, ◌+◌, ◌≤◌, arith, ℕ, List, [], ◌∷◌, ◌++◌, length, slice_get, slice_set, replicate, Bool, true, false, Option, None, Some, inl, inr, refl, ap, sym}
use Rattle.std.proofs.Common.{◌∙◌, append_assoc, append-nil, subst, if◌then◌else◌}
use Rattle.ft_types.specs.declared.names.TheConstants.{HART_ROW}
use Rattle.interleaving.specs.Machine.{Turn}
use Rattle.interleaving.specs.Stored.{run_from, goes, stored_after}
use Rattle.interleaving.specs.Log.{Edge}
use Rattle.interleaving.proofs.Put.{same_or_not}
use Rattle.input_log.specs.declared.Input.{Input}
use Rattle.rv32_hart.specs.Hart.{Hart}
use Rattle.rv32_hart.specs.Step.{effect}
use Rattle.rv32_hart.specs.Hardware.{hardware}
use Rattle.rv32_hart.specs.machinery.Local.{step_counted}
use Rattle.guest_image.specs.Machine.{MachineState, HasPutOutMore, HasGoneOn, HaveGoneOn}
use Rattle.hart_lease.specs.declared.stretch.Stretch.{Stretch}
use Rattle.hart_lease.specs.OpenLeases.{OpenView}
use Rattle.hart_lease.specs.Runs.{Heard, LeadsTo, journal_turns}
use Rattle.hart_lease.proofs.journals.GoingOn.{get-set_here, get-set_there}
use Rattle.hart_lease.proofs.pages.Slots.{none-replicate}
use Rattle.book_modes.specs.Obeying.{EachHears}
use Rattle.page_book.specs.Books.{IsBook}
use Rattle.page_book.proofs.Kept.{begun_book}
use Rattle.page_book.proofs.Outputs.{AddsOne, effect_adds}

-- ---- harts that went on

one_more : (h k : Hart) → AddsOne h k → HasPutOutMore h k
one_more h k (inl same) = ([], same ∙ sym (append-nil h.outputs))
one_more h k (inr (word, is)) = ((h.count, word) ∷ [], is)

and_more : (h k g : Hart) → HasPutOutMore h k → HasPutOutMore k g → HasPutOutMore h g
and_more h k g (first, one) (rest, other) = (first ++ rest, other ∙ (ap (λ os. os ++ rest) one ∙ append_assoc h.outputs first rest))

stayed : (h : Hart) → HasGoneOn h h
stayed h = record { outputs = ([], sym (append-nil h.outputs)); count = omega arith; same = λ e. refl }

-- a hart that took a step, and then went on
step_then : (h k g : Hart) → HasPutOutMore h k → k.count ≡ h.count + 1 → HasGoneOn k g → HasGoneOn h g
step_then h k g more one on =
    record {
      outputs = and_more h k g more on.outputs;
      count = let le = on.count in omega (arith, le, one);
      same = λ e. let le = on.count in absurd (omega (arith, le, one, e));
    }

-- where a hart took a step, and each went on from there
one_then_more : (harts ends : List Hart) (i : ℕ) (h k : Hart) → slice_get harts i ≡ Some h → HasPutOutMore h k → k.count ≡ h.count + 1 →
    HaveGoneOn (slice_set harts i k) ends → HaveGoneOn harts ends
one_then_more harts ends i h k there more one on hart was end is is_end =
    elim (same_or_not i hart) [
      | inl same ↦
          let here : Some was ≡ Some h = sym is ∙ (ap (slice_get harts) (sym same) ∙ there) in
          let e : was ≡ h = cc in
          let now : slice_get (slice_set harts i k) hart ≡ Some k = subst (λ n. slice_get (slice_set harts i k) n ≡ Some k) same (get-set_here harts i k h there) in
          subst (λ g. HasGoneOn g end) (sym e) (step_then h k end more one (on hart k end now is_end))
      | inr ne ↦ on hart was end (get-set_there harts i k hart ne ∙ is) is_end
    ]

-- a turn of a hart that is there, which may be halted, and the turns behind it, where each goes on at those
hart_turns : (pages : ℕ) (m end : MachineState) (t : Turn (List Input)) (turns : List (Turn (List Input))) →
    ((s : MachineState) → run_from (hardware pages) (Some s) turns ≡ Some end → HaveGoneOn s.harts end.harts) → (h : Hart) →
    slice_get m.harts t.hart ≡ Some h → (halted : Bool) →
    run_from (hardware pages) (if halted then None else Some (stored_after m t.hart (effect pages h t.input (slice_get m.pages)))) turns ≡ Some end →
    HaveGoneOn m.harts end.harts
hart_turns pages m end t turns on h is true e = cc
hart_turns pages m end t turns on h is false e =
    one_then_more m.harts end.harts t.hart h (effect pages h t.input (slice_get m.pages)).hart is
    (one_more h (effect pages h t.input (slice_get m.pages)).hart (effect_adds pages h t.input (slice_get m.pages)))
    (step_counted pages h t.input (slice_get m.pages))
    (on (stored_after m t.hart (effect pages h t.input (slice_get m.pages))) e)

-- the same of a hart that may not be there
turn_then : (pages : ℕ) (m end : MachineState) (t : Turn (List Input)) (turns : List (Turn (List Input))) →
    ((s : MachineState) → run_from (hardware pages) (Some s) turns ≡ Some end → HaveGoneOn s.harts end.harts) → (o : Option Hart) →
    slice_get m.harts t.hart ≡ o → run_from (hardware pages) (goes (hardware pages) m t o) turns ≡ Some end → HaveGoneOn m.harts end.harts
turn_then pages m end t turns on None is e = cc
turn_then pages m end t turns on (Some h) is e = hart_turns pages m end t turns on h is h.halted e

-- a machine that runs
runs_on : (pages : ℕ) (m end : MachineState) (turns : List (Turn (List Input))) → run_from (hardware pages) (Some m) turns ≡ Some end →
    HaveGoneOn m.harts end.harts
runs_on pages m end [] e hart h g was is =
    let same : m ≡ end = cc in
    let one : Some h ≡ Some g = sym was ∙ (ap (λ (s : MachineState). slice_get s.harts hart) same ∙ is) in
    let two : h ≡ g = cc in
    subst (λ k. HasGoneOn h k) two (stayed h)
runs_on pages m end (t ∷ turns) e hart h g was is =
    turn_then pages m end t turns (λ s. runs_on pages s end turns) (slice_get m.harts t.hart) refl e hart h g was is

-- and so of the journal of a book
pub journal_goes_on : (heard : Heard) (start m : MachineState) (journal : List Stretch) → LeadsTo heard start journal m → HaveGoneOn start.harts m.harts
journal_goes_on heard start m journal leads = runs_on (length start.pages) start m (journal_turns heard start journal) leads

-- ---- a book without steps, whatever it obeys

-- where no lease is open, each that is open has what its hart is to hear
all_hear : (heard : Heard) (machine : MachineState) → EachHears heard machine (replicate HART_ROW None)
all_hear heard machine hart lent e = let same = sym (none-replicate {A = OpenView} HART_ROW hart) ∙ e in cc

pub begun_anew : (start : MachineState) (stops : List ℕ) (edges : List Edge) (heard : Heard) →
    IsBook start start [] (replicate HART_ROW None) stops edges heard (EachHears heard start (replicate HART_ROW None))
begun_anew start stops edges heard = begun_book start stops edges heard _ (all_hear heard start)

pub obeys_another : (start m : MachineState) (journal : List Stretch) (leases : List (Option OpenView)) (stops : List ℕ) (edges : List Edge)
    (old heard : Heard) → LeadsTo old start journal m → journal ≡ [] → leases ≡ replicate HART_ROW None →
    IsBook start m journal leases stops edges heard (EachHears heard m leases)
obeys_another start m journal leases stops edges old heard leads undone idle =
    let turns : journal_turns old start journal ≡ [] = rw undone refl in
    let same : Some start ≡ Some m = sym (ap (run_from (hardware (length start.pages)) (Some start)) turns) ∙ leads in
    let one : start ≡ m = cc in
    rw (undone, idle, ← one) (begun_anew start stops edges heard)
