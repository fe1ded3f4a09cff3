use Rattle.hart_lease.specs.Runs.{counts_of}
use Rattle.moments.specs.machinery.Machines.{machine_of}
use Rattle.moments.proofs.Passing.{both_met}
use Rattle.moments.proofs.next.may_pass.Goals as goal

pub returns-then-count-count_of : goal.returns-then-count-count_of
returns-then-count-count_of c =
    both_met c.args.leg.now c.args.hart c.args.count (counts_of (machine_of c.args.machine.now)) c.requires c.at.result.now c.at.ensures.rules
    c.at.ensures.value c.count_of.result c.count_of.ensures.value c.if-count-count_of.true c.are_met.result c.are_met.ensures
