use Rattle.std.proofs.Common.{sym, ◌∙◌}
use Rattle.ft_types.specs.declared.names.TheConstants.{HART_LIMIT}
use Rattle.crew_pages.specs.Rights.{right_of}
use Rattle.book_modes.proofs.ledger.Holding.{has_free}
use Rattle.book_modes.proofs.ledger.Yielding.{none_yields}
use Rattle.book_modes.proofs.yielding.is_at_hand.Goals as goal

pub returns-clause-stays : goal.returns-clause-stays
returns-clause-stays c has settled =
    let asked = c.args.asked.now in
    none_yields asked settled HART_LIMIT (right_of c.args.right.now) (has_free (right_of c.args.right.now) asked.hart asked.want (sym c.has.ensures ∙ has))
