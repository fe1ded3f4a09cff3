use Rattle.page_book.proofs.lease.Lease.full.Goals as goal

pub returns : goal.returns
returns c = rw (← c.self.view_is, ← c.deref.ensures) c.full.ensures
