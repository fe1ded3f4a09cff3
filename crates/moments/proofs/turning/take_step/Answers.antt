use Rattle.std.proofs.Common.{◌≡◌, ◌∙◌, ℕ, ap, sym, subst, length, slice_index, slice_set, arith}
use Rattle.std.proofs.lemmas.Result.{on_ok_weaker}
use Rattle.ft_types.specs.declared.names.TheConstants.{HART_ROW}
use Rattle.hart_lease.specs.Runs.{steps_taken}
use Rattle.moments.specs.machinery.Machines.{machine_of}
use Rattle.plan_lines.specs.machinery.Kept.{AreQuiet}
use Rattle.moments.proofs.Turns.{as_many, no_inputs, quiet_on, quiet_put}
use Rattle.moments.proofs.turning.take_step.Goals as goal

-- a hart that is quiet has no inputs here
pub step_on-requires-clause-inputs : goal.step_on-requires-clause-inputs
step_on-requires-clause-inputs c =
    no_inputs c.args.leg.now (machine_of c.args.now.now.machine) c.args.hart c.hart.result.now c.count-count.result (slice_index c.args.stops.now c.args.hart) c.hart.ensures c.count-count.ensures.value
    (c.requires.quiet c.args.hart c.requires.hart) (rw c.index.ensures.value at c.if-count-stops.true)

pub returns-then-count-stops-clause-quiet : goal.returns-then-count-stops-clause-quiet
returns-then-count-stops-clause-quiet c =
    let m = machine_of c.args.now.now.machine in
    let n = machine_of c.step_on.new.now.machine in
    on_ok_weaker c.step_on.result
    (λ steps. quiet_on c.args.leg.now m n c.args.hart steps (as_many c.args.leg.now m n c.args.hart steps) c.args.stops.now c.requires.quiet)
    c.step_on.ensures.steps

pub returns-clause-quiet : goal.returns-clause-quiet
returns-clause-quiet c =
    let m = machine_of c.args.now.now.machine in
    let n = machine_of c.step_on-2.new.now.machine in
    let steps = c.in_ok-step_on.ensures.steps in
    let rows : length c.args.stops.now ≡ HART_ROW = omega arith in
    subst (λ (place : ℕ). AreQuiet c.args.leg.now n (slice_set c.args.stops.now place c.stop_of.result)) (sym c.index-2.ensures.value)
    (quiet_put c.args.leg.now m n c.args.hart steps (as_many c.args.leg.now m n c.args.hart steps) c.args.stops.now c.count-count.result c.stop_of.result rows
    (omega (arith, c.index-2.ensures.value, c.index-2.ensures.below)) (c.count-count.ensures.value ∙ sym (ap steps_taken c.hart.ensures)) c.requires.quiet
    c.stop_of.ensures)
