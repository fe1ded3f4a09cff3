use Rattle.std.proofs.Common.{arith}
use Rattle.ft_types.specs.declared.names.TheConstants.{COUNT_LIMIT}
use Rattle.moments.specs.machinery.Machines.{machine_of}
use Rattle.moments.proofs.Turns.{next_runs, steps_taken_so}
use Rattle.moments.proofs.turning.step_on.Goals as goal

pub step-requires-clause-runs : goal.step-requires-clause-runs
step-requires-clause-runs c =
    let limit = c.count_of-end.ensures.limit in
    let is = c.count_of-end.ensures.value in
    next_runs c.args.leg.now (machine_of c.args.now.now.machine) c.args.hart COUNT_LIMIT c.requires.next (omega (arith, limit, is))

pub returns-clause-steps : goal.returns-clause-steps
returns-clause-steps c =
    steps_taken_so c.args.leg.now (machine_of c.args.now.now.machine) (machine_of c.step.new.self) c.args.hart c.args.inputs.now c.requires.hart
    c.requires.next c.requires.inputs c.in_ok-step.ensures.taken
