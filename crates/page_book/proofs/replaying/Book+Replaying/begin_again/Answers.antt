use Rattle.std.proofs.Common.{sym, subst, ◌≤◌}
use Rattle.book_modes.specs.machinery.Words.{edges_of, heard_in}
use Rattle.page_book.proofs.Again.{begun_anew, journal_goes_on}
use Rattle.page_book.proofs.replaying.Book+Replaying.begin_again.Goals as goal

pub catch_up-requires-clause-harts : goal.catch_up-requires-clause-harts
catch_up-requires-clause-harts c = sym c.self.invariant.harts

pub catch_up-requires-clause-steps : goal.catch_up-requires-clause-steps
catch_up-requires-clause-steps c =
    let i = c.self.inside in
    journal_goes_on (heard_in i.mode.inputs) i.start i.machine i.journal.items c.self.invariant.run

pub close_all-requires-clause-known : goal.close_all-requires-clause-known
close_all-requires-clause-known c h le =
    rw c.deref_mut.ensures.value (c.self.invariant.known h (subst (λ n. n ≤ h) c.harts.ensures.value le))

pub invariant_of-self-2 : goal.invariant_of-self-2
invariant_of-self-2 c =
    let i = c.self.inside in
    rw (c.in_ok-catch_up.ensures.caught_up, c.clear.ensures.items, c.close_all.ensures)
    (begun_anew i.machine i.mode.ends (edges_of i.mode.edges) (heard_in i.mode.inputs))
