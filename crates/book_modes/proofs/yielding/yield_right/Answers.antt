use Rattle.std.proofs.Common.{sym}
use Rattle.ft_types.specs.Counts.{count_at}
use Rattle.ft_types.specs.declared.names.TheConstants.{HART_LIMIT}
use Rattle.crew_pages.specs.Rights.{right_of}
use Rattle.book_modes.proofs.ledger.Yielding.{none_yields}
use Rattle.book_modes.proofs.yielding.yield_right.Goals as goal

pub returns-then-is_empty : goal.returns-then-is_empty
returns-then-is_empty c =
    sym (none_yields c.args.asked.now (count_at c.args.settled.now) HART_LIMIT (right_of c.args.right.now)
    (λ g there. c.is_empty.ensures.none.0 c.if-is_empty.true g ((c.against.ensures g).1 there)))
