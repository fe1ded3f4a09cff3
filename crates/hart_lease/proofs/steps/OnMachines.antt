-- A lease's steps are steps of every machine that its hart and pages stand in.
use Rattle.std.proofs.Common.{◌≡◌, ℕ, zero, suc, ◌<◌, List, [], ◌∷◌, length, slice_get, slice_set, slice_index_or, Bool, true, false, Option, None, Some, refl}
use Rattle.std.proofs.Common.{ap, sym, ◌∙◌, arith, if◌then◌else◌, length-set}
use Rattle.std.proofs.lemmas.List.{set-set}
use Rattle.interleaving.specs.Machine.{Effect, Write, Turn}
use Rattle.interleaving.specs.Stored.{Hardware, Store, run_from, goes, stored_after, written_in}
use Rattle.rv32_hart.specs.Hart.{Hart}
use Rattle.rv32_hart.specs.Step.{Contents, IsTaken, effect, ram_after}
use Rattle.rv32_hart.specs.Csrs.{received_all}
use Rattle.rv32_hart.specs.Access.{next_step}
use Rattle.rv32_hart.specs.machinery.Local.{step_local}
use Rattle.rv32_hart.specs.Hardware.{hardware}
use Rattle.hart_lease.specs.declared.taken.Taken.{Taken}
use Rattle.guest_image.specs.Machine.{MachineState}
use Rattle.hart_lease.specs.declared.lease_pages.Slot.{Slot}
use Rattle.hart_lease.specs.declared.lease_pages.Slot.TheVariants.{Writable}
use Rattle.hart_lease.specs.Slots.{slot_at, want_of, base_of, present_bytes, is_readable, ram_of}
use Rattle.hart_lease.specs.Leases.{LeaseView, IsLent, laid, laid_pages, inputs_next, stepped}
use Rattle.hart_lease.specs.Turns.{turn_on, turns_from}
use Rattle.hart_lease.specs.Runs.{StandsIn, IsRunOf}
use Rattle.hart_lease.proofs.pages.Slots.{length-map, ram_written, ram_tells}
use Rattle.hart_lease.proofs.pages.Places.{get_within}
use Rattle.hart_lease.proofs.journals.Runs.{run_from-append, turns_from-last}
use Rattle.hart_lease.proofs.steps.Seen.{touched_readable, readable_within, shown_laid, write_right, IsWritable, right_writable, laid_pages-set, base-set}
use Rattle.hart_lease.proofs.steps.Seen.{right-set}

get-set_same : {A : Type 0} (xs : List A) (i : ℕ) (v : A) → i < length xs → slice_get (slice_set xs i v) i ≡ Some v
get-set_same [] i v lt = absurd (omega arith)
get-set_same (x ∷ xs) zero v lt = refl
get-set_same (x ∷ xs) (suc i) v lt = get-set_same xs i v (omega arith)

-- the slots, with the bytes that a step wrote
abbrev pub slots_written : List Slot → Option (Write (List ℕ)) → List Slot
slots_written slots None = slots
slots_written slots (Some w) = slice_set slots w.page (Writable w.contents)

-- what a step leaves of the slots: the same, or one with the bytes that it wrote
pub record Leaves (slots after : List Slot) (pages : List (List ℕ)) (write : Option (Write (List ℕ))) : Type 0 where
  pub slots_after : after ≡ slots_written slots write
  pub laid_after : written_in (laid_pages pages slots) write ≡ laid_pages pages after
  pub bases_after : (page : ℕ) (kept : Option (List ℕ)) → base_of (slot_at after page) kept ≡ base_of (slot_at slots page) kept
  pub rights_after : (page : ℕ) → want_of (slot_at after page) ≡ want_of (slot_at slots page)
  pub length_after : length after ≡ length slots

leaves : (slots after : List Slot) (pages : List (List ℕ)) (write : Option (Write (List ℕ))) →
    ram_of after ≡ ram_after (ram_of slots) write → ((w : Write (List ℕ)) → write ≡ Some w → IsWritable slots w.page) → Leaves slots after pages write
leaves slots after pages None e right =
    let same : after ≡ slots = ram_tells after slots e in
    record {
      slots_after = same;
      laid_after = ap (laid_pages pages) (sym same);
      bases_after = λ page kept. ap (λ (s : List Slot). base_of (slot_at s page) kept) same;
      rights_after = λ page. ap (λ (s : List Slot). want_of (slot_at s page)) same;
      length_after = ap length same;
    }
leaves slots after pages (Some w) e right =
    let may : IsWritable slots w.page = right w refl in
    let same : after ≡ slice_set slots w.page (Writable w.contents) =
    ram_tells after (slice_set slots w.page (Writable w.contents)) (e ∙ sym (ram_written slots w.page may.old w.contents may.is)) in
    let within : w.page < length slots = readable_within slots w.page (ap is_readable may.is) in
    record {
      slots_after = same;
      laid_after = laid_pages-set pages slots w.page w.contents within ∙ ap (laid_pages pages) (sym same);
      bases_after = λ page kept.
          ap (λ (s : List Slot). base_of (slot_at s page) kept) same ∙ base-set slots w.page may.old w.contents may.is page kept;
      rights_after = λ page.
          ap (λ (s : List Slot). want_of (slot_at s page)) same ∙ right-set slots w.page may.old w.contents may.is page;
      length_after = ap length same ∙ length-set slots w.page (Writable w.contents);
    }

-- a turn of a hart that is there and not halted
turn_goes : {H P I : Type 0} (hw : Hardware H P I) (s : Store H P) (t : Turn I) (found : Option H) (h : H) → found ≡ Some h → hw.halted h ≡ false →
    goes hw s t found ≡ Some (stored_after s t.hart (hw.effect h t.input (slice_get s.pages)))
turn_goes {H} {P} hw s t found h is running =
    ap (goes hw s t) is
    ∙ ap (λ (b : Bool). let o : Option (Store H P) = (if b then None else Some (stored_after s t.hart (hw.effect h t.input (slice_get s.pages)))) in o) running

module _ (l : LeaseView) (after : Hart) (slots : List Slot) (taken : IsTaken (inputs_next l) l.present (ram_of l.slots) after (ram_of slots)) where
  abbrev n : ℕ
  n = length (ram_of l.slots).contents

  abbrev seen : Contents
  seen = slice_get (ram_of l.slots).contents

  abbrev what : Effect Hart (List ℕ)
  what = effect n l.present (inputs_next l) seen

  pub left : (pages : List (List ℕ)) → Leaves l.slots slots pages what.write
  left pages =
      leaves l.slots slots pages what.write taken.pages
      (λ w e. right_writable l.slots w.page (write_right (ram_of l.slots) (next_step n (received_all (inputs_next l) l.present)) seen w taken.granted e))

  -- the lease before the step stood in the machine too
  stood : (m : MachineState) → StandsIn m (stepped l after slots) → StandsIn m l
  stood m on = record {
    state = on.state;
    as_many = sym (left m.pages).length_after ∙ on.as_many;
    contents = λ page bytes e. on.contents page bytes ((left m.pages).bases_after page (slice_index_or l.bases page None) ∙ e);
  }

  -- the step sees the same of the machine with the lease's pages laid over its own
  sees : (m : MachineState) → StandsIn m l → what ≡ effect n l.present (inputs_next l) (slice_get (laid m l).pages)
  sees m on =
      step_local n l.present (inputs_next l) seen (slice_get (laid m l).pages) (λ page touched.
      let there : is_readable (slot_at l.slots page) ≡ true =
      touched_readable l.slots (next_step n (received_all (inputs_next l) l.present)) seen page taken.granted touched in
      let within : page < length m.pages = omega (arith, readable_within l.slots page there, on.as_many) in
      shown_laid m.pages l.slots page there within
      (λ bytes e. on.contents page bytes (ap (λ (s : Slot). base_of s (slice_index_or l.bases page None)) e)))

  goes_on : (m : MachineState) → StandsIn m l →
      goes (hardware (length m.pages)) (laid m l) (turn_on l.hart (inputs_next l)) (slice_get (laid m l).harts l.hart) ≡ Some (laid m (stepped l after slots))
  goes_on m on =
      let within : l.hart < length m.harts = get_within m.harts l.hart l.base on.state in
      let pages : length m.pages ≡ n = sym on.as_many ∙ sym (length-map present_bytes l.slots) in
      let hart : slice_get (laid m l).harts l.hart ≡ Some l.present = get-set_same m.harts l.hart l.present within in
      let same : effect (length m.pages) l.present (inputs_next l) (slice_get (laid m l).pages) ≡ what =
      ap (λ (k : ℕ). effect k l.present (inputs_next l) (slice_get (laid m l).pages)) pages ∙ sym (sees m on) in
      let stored : Effect Hart (List ℕ) → Option MachineState = λ e. Some (stored_after (laid m l) l.hart e) in
      let made : List Hart → List (List ℕ) → Option MachineState = λ hs ps. Some (record { harts = hs; pages = ps }) in
      turn_goes (hardware (length m.pages)) (laid m l) (turn_on l.hart (inputs_next l)) (slice_get (laid m l).harts l.hart) l.present hart taken.running
      ∙ ap stored same
      ∙ ap (λ hs. made hs (written_in (laid m l).pages what.write)) (set-set m.harts l.hart l.present what.hart)
      ∙ ap (made (slice_set m.harts l.hart what.hart)) (left m.pages).laid_after
      ∙ ap (λ (h : Hart). made (slice_set m.harts l.hart h) (laid_pages m.pages slots)) (sym taken.hart)

  pub ticked : IsRunOf l → IsRunOf (stepped l after slots)
  ticked runs m on =
      let before : StandsIn m l = stood m on in
      rw (turns_from-last l.inputs l.hart l.steps)
      (run_from-append (hardware (length m.pages)) (Some m) (turns_from l.inputs l.hart l.steps) (turn_on l.hart (inputs_next l) ∷ [])
      ∙ ap (λ (o : Option MachineState). run_from (hardware (length m.pages)) o (turn_on l.hart (inputs_next l) ∷ [])) (runs m before)
      ∙ ap (λ (o : Option MachineState). run_from (hardware (length m.pages)) o []) (goes_on m before))

  -- a step leaves the right to each page
  pub rights_stay : (page : ℕ) → want_of (slot_at slots page) ≡ want_of (slot_at l.slots page)
  rights_stay page = (left []).rights_after page

  -- whoever lent the lease before the step still did
  pub still_lent : (m : MachineState) (counts : List (Option Taken)) → IsLent m counts l → IsLent m counts (stepped l after slots)
  still_lent m counts lent =
      let same : Leaves l.slots slots m.pages what.write = left m.pages in
      record {
        state = lent.state;
        as_many = same.length_after ∙ lent.as_many;
        counts = lent.counts;
        pages = λ page lt bytes e.
            let within : page < length l.slots = omega (arith, same.length_after, lt) in
            lent.pages page within bytes (sym (same.bases_after page (slice_index_or l.bases page None)) ∙ e);
      }
