use Rattle.page_book.proofs.recorded.Book+Recording.notes.Goals as goal

pub returns-clause-within : goal.returns-clause-within
returns-clause-within c hart = rw (c.notes.ensures, ← c.self.view_is) (c.self.invariant.keeps.noted hart)
