use Rattle.std.proofs.Common.{[]}
use Rattle.book_modes.specs.machinery.Words.{edges_of, heard_in}
use Rattle.page_book.proofs.Again.{begun_anew}
use Rattle.page_book.proofs.book.Book+Replaying.begin.Goals as goal

pub invariant_of-result : goal.invariant_of-result
invariant_of-result c =
    let leg = c.args.leg in
    rw (c.in_ok-machine.ensures, c.new-2.ensures.items, c.in_ok-leases.ensures, c.new-3.ensures, c.in_ok-leg.ensures.ok)
    (begun_anew c.args.start leg.ends (edges_of leg.edges) (heard_in leg.inputs))
