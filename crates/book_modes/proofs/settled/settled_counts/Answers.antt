use Rattle.std.proofs.Common.{rules}
use Rattle.hart_lease.proofs.journals.OpenLeases.{counts_told}
use Rattle.book_modes.proofs.settled.settled_counts.Goals as goal

pub returns-clause-all : goal.returns-clause-all
returns-clause-all c = counts_told _ c.args.machine.now (search rules) (search rules)
