use Rattle.book_modes.specs.machinery.Words.{edges_of, heard_in}
use Rattle.page_book.proofs.Again.{obeys_another}
use Rattle.page_book.proofs.replaying.Book+Replaying.swap_leg.Goals as goal

pub invariant_of-self : goal.invariant_of-self
invariant_of-self c =
    let i = c.self.inside in
    let new = c.swap.new.self in
    obeys_another i.start i.machine i.journal.items i.leases.value new.ends (edges_of new.edges) (heard_in i.mode.inputs) (heard_in new.inputs)
    c.self.invariant.run (rw (← c.self.view_is) at c.requires.undone) (rw (← c.self.view_is) at c.requires.idle)
