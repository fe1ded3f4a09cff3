use Rattle.book_modes.proofs.ledger.Honesty.{logged_within}
use Rattle.page_book.proofs.recorded.Book+Recording.inputs.Goals as goal

pub returns-clause-within : goal.returns-clause-within
returns-clause-within c hart =
    let i = c.self.inside in
    rw (c.inputs.ensures, ← c.self.view_is) (logged_within i.mode i.start i.machine i.journal.items i.leases.value c.self.invariant.keeps hart)
