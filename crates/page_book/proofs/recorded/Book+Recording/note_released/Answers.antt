use Rattle.std.proofs.Common.{◌≡◌, ◌≤◌, ℕ, List, [], All, Option, Result, Ok, Err, OnOk, OnErr, subst, sym, le_of_eq}
use Rattle.ft_types.specs.declared.errors.Memory.{Memory}
use Rattle.guest_image.specs.Machine.{MachineState}
use Rattle.input_log.specs.Notes.{notes_of}
use Rattle.hart_lease.specs.declared.stretch.Stretch.{Stretch}
use Rattle.hart_lease.specs.OpenLeases.{OpenView}
use Rattle.hart_lease.specs.Runs.{counts_of}
use Rattle.page_book.specs.Books.{IsBook}
use Rattle.book_modes.specs.Recordings.{RecordingView, IsNoting, IsRecorded, heard_by}
use Rattle.page_book.proofs.Kept.{noting_book}
use Rattle.page_book.proofs.recorded.Book+Recording.note_released.Goals as goal

module _ (start m : MachineState) (journal : List Stretch) (leases : List (Option OpenView)) where
  abbrev Keeps : RecordingView → Type 0
  Keeps r = IsBook start m journal leases r.limits [] (heard_by r) (IsRecorded r start m journal leases)

  either : (r new : RecordingView) (hart count number : ℕ) (result : Result (Unit {0}) Memory) → OnOk result (IsNoting r hart count number new) →
      OnErr result (new ≡ r) → count ≤ counts_of m hart → Keeps r → Keeps new
  either r new hart count number (Ok x) noted kept reached p = noting_book r new hart count number start m journal leases noted reached p
  either r new hart count number (Err refused) noted kept reached p = subst Keeps (sym kept) p

pub invariant_of-self : goal.invariant_of-self
invariant_of-self c =
    let i = c.self.inside in
    either i.start i.machine i.journal.items i.leases.value i.mode c.note_released.new.self c.args.hart c.steps_taken-count.result c.min.result
    c.note_released.result c.note_released.ensures.noted c.note_released.ensures.err (le_of_eq c.steps_taken-count.ensures) c.self.invariant

pub note_released-requires-clause-last : goal.note_released-requires-clause-last
note_released-requires-clause-last c =
    let i = c.self.inside in
    subst (λ (n : ℕ). All (λ x. x.0 ≤ n) (notes_of i.mode.notes c.args.hart)) (sym c.steps_taken-count.ensures) (c.self.invariant.keeps.noted c.args.hart)
