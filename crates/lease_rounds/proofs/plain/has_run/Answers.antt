use Rattle.lease_rounds.proofs.Counts.{has_run}
use Rattle.lease_rounds.proofs.plain.has_run.Goals as goal

pub returns : goal.returns
returns c = has_run c.args.book.now c.machine-machine.ensures.run
