use Rattle.std.proofs.Common.{rules}
use Rattle.hart_lease.proofs.journals.OpenLeases.{counts_told}
use Rattle.moments.specs.machinery.Machines.{machine_of}
use Rattle.moments.proofs.machines.SteppedMachine.counts.Goals as goal

pub returns-clause-value : goal.returns-clause-value
returns-clause-value c = counts_told _ (machine_of c.args.self.now) (search rules) (search rules)
