use Rattle.book_modes.proofs.obeying.Inputs.{given_hears, asker_row}
use Rattle.book_modes.proofs.mode.ReplayingMode.give.Goals as goal

pub returns-clause-kept : goal.returns-clause-kept
returns-clause-kept c found owed g =
    given_hears _ g.machine g.leases c.args._asked.now.hart c.args._asked.now.page c.args._asked.now.want c.args._asked.now.count found
    (asker_row g.machine g.leases c.args._asked.now g.asks.asker g.asks.is_lent g.asks.hart) g.asks.kept
