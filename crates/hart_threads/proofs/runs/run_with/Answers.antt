use Rattle.std.proofs.Common.{◌≡◌, ◌≤◌, ℕ, List, [], All, sym, ap, subst, ◌∙◌}
use Rattle.input_log.specs.Notes.{NotesOfOne, notes_of}
use Rattle.book_modes.specs.Recordings.{RecordingView}
use Rattle.page_book.specs.Books.{BookView}
use Rattle.lease_rounds.specs.Running.{Continues, GoToBudget}
use Rattle.hart_threads.proofs.Aside as aside
use Rattle.hart_threads.proofs.runs.run_with.Given.{Over}
use Rattle.hart_threads.proofs.runs.run_with.Goals as goal
use Rattle.hart_threads.proofs.runs.run_with.Goals.{After-drop-notes-inside-2}

back_is : (g : Over) (c : After-drop-notes-inside-2 g) → c.swap_notes-2.new.self ≡ aside.with_notes c.in_ok-book.book c.args.book.mode.notes
back_is g c = c.swap_notes-2.ensures.new ∙ ap (aside.with_notes c.in_ok-book.book) c.swap_notes.ensures.old

continues_is : (g : Over) (c : After-drop-notes-inside-2 g) → Continues c.args.book c.swap_notes-2.new.self
continues_is g c =
    aside.continues c.args.book c.swap_notes.new.self c.in_ok-book.book c.swap_notes-2.new.self c.new-notes.result c.swap_notes.ensures.new (back_is g c)
    c.in_ok-book.ensures.continues

counts_are : (g : Over) (c : After-drop-notes-inside-2 g) → GoToBudget c.args.budget c.args.book c.swap_notes-2.new.self
counts_are g c =
    aside.to_budget c.args.book c.swap_notes.new.self c.in_ok-book.book c.swap_notes-2.new.self c.new-notes.result c.swap_notes.ensures.new (back_is g c)
    c.args.budget c.in_ok-book.ensures.counts

pub returns-clause-continues : goal.returns-clause-continues
returns-clause-continues g c = continues_is g c

pub returns-clause-counts : goal.returns-clause-counts
returns-clause-counts g c = counts_are g c

pub returns-clause-tells : goal.returns-clause-tells
returns-clause-tells g c =
    let on = continues_is g c in record { counts = λ hart. (counts_are g c hart).0; inputs = on.inputs; edges = on.edges; notes = on.notes }

pub returns-clause-offered : goal.returns-clause-offered
returns-clause-offered g c =
    aside.keeps_offered c.args.book c.swap_notes.new.self c.in_ok-book.book c.swap_notes-2.new.self c.new-notes.result c.swap_notes.ensures.new (back_is g c)
    c.in_ok-book.ensures.offered

pub returns-clause-runs : goal.returns-clause-runs
returns-clause-runs g c =
    aside.runs c.args.book c.swap_notes.new.self c.in_ok-book.book c.swap_notes-2.new.self c.new-notes.result c.swap_notes.ensures.new (back_is g c)
    c.in_ok-book.ensures.runs

pub returns-clause-done : goal.returns-clause-done
returns-clause-done g c =
    aside.at_budget c.args.book c.swap_notes.new.self c.in_ok-book.book c.swap_notes-2.new.self c.new-notes.result c.swap_notes.ensures.new (back_is g c)
    c.args.budget c.in_ok-book.ensures.done

pub returns-clause-idle : goal.returns-clause-idle
returns-clause-idle g c =
    aside.idle c.args.book c.swap_notes.new.self c.in_ok-book.book c.swap_notes-2.new.self c.new-notes.result c.swap_notes.ensures.new (back_is g c)
    c.in_ok-book.ensures.idle

pub returns-clause-limits : goal.returns-clause-limits
returns-clause-limits g c =
    aside.limits c.args.book c.swap_notes.new.self c.in_ok-book.book c.swap_notes-2.new.self c.new-notes.result c.swap_notes.ensures.new (back_is g c)
    c.args.budget c.in_ok-book.ensures.limits
