-- A book in which it is noted what went out.
use Rattle.std.proofs.Common.{◌≡◌, List, ap, ◌∙◌}
use Rattle.ft_types.specs.declared.output.Output.{Output}
use Rattle.guest_image.specs.Machine.{MachineState}
use Rattle.input_log.specs.Notes.{notes_of}
use Rattle.hart_lease.specs.Runs.{counts_of}
use Rattle.page_book.specs.Books.{BookView}
use Rattle.book_modes.specs.Recordings.{RecordingView, HasRoomed}
use Rattle.primary.specs.Noting.{last_of, noted_to, NotesAll}

-- notes that were made after room was, are made of the book before
pub noted_since : (given : List Output) (b c d : BookView RecordingView) → HasRoomed b.mode c.mode → c ≡ record b { mode = c.mode } → NotesAll given c d →
    NotesAll given b d
noted_since given b c d roomed book all =
    let machine : c.machine ≡ b.machine = ap (λ (x : BookView RecordingView). x.machine) book in
    record {
      rest =
          all.rest
          ∙ ap (λ (x : BookView RecordingView). let y : BookView RecordingView = record x { mode = record x.mode { notes = d.mode.notes } } in y) book
          ∙ ap (λ (m : RecordingView). let y : BookView RecordingView = record b { mode = record m { notes = d.mode.notes } } in y) roomed.rest;
      notes = λ hart.
          all.notes hart
          ∙ ap (λ (m : MachineState). noted_to (last_of hart given) (counts_of m hart) (notes_of c.mode.notes hart)) machine
          ∙ ap (noted_to (last_of hart given) (counts_of b.machine hart)) (roomed.same hart);
    }
