-- Books that go on, one after the other.
use Rattle.std.proofs.Common.{◌≡◌, [], ◌++◌, List, length, refl, sym, ap, ◌∙◌, append_assoc, append-nil}
use Rattle.hart_lease.specs.declared.stretch.Stretch.{Stretch}
use Rattle.hart_lease.specs.Runs.{LeadsTo, journal_turns}
use Rattle.book_modes.specs.Recordings.{RecordingView, heard_by}
use Rattle.guest_image.specs.Machine.{MachineState}
use Rattle.page_book.specs.Books.{BookView}
use Rattle.page_book.proofs.Tellings.{notes_kept, tells_the_same, tells_further}
use Rattle.hart_replay.specs.Primaries.{IsPrimary}
use Rattle.lease_rounds.specs.Running.{Continues}
use Rattle.lease_rounds.specs.machinery.SoFar.{HasRun}
use Rattle.lease_rounds.proofs.Onward.{runs_on}
use Rattle.primary.specs.Primaries.{GoesOn}
use Rattle.leading.proofs.Saying.{AreLater, run_later}

pub goes_nowhere : (b : BookView RecordingView) → IsPrimary b → LeadsTo (heard_by b.mode) b.start b.journal b.machine → GoesOn b b
goes_nowhere b primary leads = record {
  start = refl;
  journal = ([], sym (append-nil b.journal));
  tells = tells_the_same b b refl refl refl (notes_kept b b refl);
  notes = λ hart. refl;
  primary = primary;
  before = leads;
  after = leads;
}

pub goes_further : (b c d : BookView RecordingView) → GoesOn b c → GoesOn c d → GoesOn b d
goes_further b c d one two = record {
  start = two.start ∙ one.start;
  journal = (
    one.journal.0 ++ two.journal.0,
    two.journal.1 ∙ ap (λ (journal : List Stretch). journal ++ two.journal.0) one.journal.1 ∙ append_assoc b.journal one.journal.0 two.journal.0,
  );
  tells = tells_further b c d one.tells two.tells;
  notes = λ hart. two.notes hart ∙ one.notes hart;
  primary = two.primary;
  before = one.before;
  after = two.after;
}

-- a book that goes on has the harts that it had
pub as_many : (b c : BookView RecordingView) → GoesOn b c → HasRun b → HasRun c → length c.machine.harts ≡ length b.machine.harts
as_many b c on first second = second.harts ∙ ap (λ (m : MachineState). length m.harts) on.start ∙ sym first.harts

-- and leads its machine on
pub book_later : (b c : BookView RecordingView) → GoesOn b c → HasRun b → HasRun c → AreLater b.machine c.machine
book_later b c on first second =
    let continues : Continues b c = record {
      start = on.start;
      harts = as_many b c on first second;
      journal = on.journal;
      inputs = on.tells.inputs;
      edges = on.tells.edges;
      notes = on.tells.notes;
    } in
    run_later (length b.machine.pages) b.machine c.machine (journal_turns (heard_by c.mode) b.machine on.journal.0)
    (runs_on b c continues first second on.journal.0 on.journal.1)
