use Rattle.page_book.proofs.Tellings.{only_notes_none, only_notes_on}
use Rattle.pair.proofs.noting.note_out.Goals as goal

pub loop-more-init : goal.loop-more-init
loop-more-init g c = only_notes_none c.args.book.now

pub loop-more-preserved : goal.loop-more-preserved
loop-more-preserved g c = only_notes_on c.args.book.now c.loop-more.book c.note.new.book c.loop-more.invariant c.note.ensures.only
