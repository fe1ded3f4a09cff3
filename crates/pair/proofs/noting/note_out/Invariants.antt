use Rattle.page_book.specs.Tellings.{OnlyNotes}
use Rattle.pair.proofs.noting.note_out.Given as goal

abbrev pub invariant-loop-more : goal.invariant-loop-more
invariant-loop-more g l = OnlyNotes l.fn.book l.book
