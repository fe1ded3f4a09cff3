use Rattle.std.proofs.Common.{◌∙◌, sym, ap, true≢false}
use Rattle.hart_lease.specs.Runs.{steps_taken}
use Rattle.moments.specs.machinery.Machines.{machine_of}
use Rattle.moments.proofs.Passing.{halted_stays, passes}
use Rattle.moments.proofs.next.may_go.Goals as goal

pub returns-then-is_halted : goal.returns-then-is_halted
returns-then-is_halted c = (
  λ runs. absurd (true≢false (sym runs)),
  λ may. absurd (halted_stays c.args.leg.now (machine_of c.args.machine.now) c.args.hart c.hart-state.result.now c.hart-state.ensures
      (sym c.is_halted.ensures ∙ c.if-is_halted.true) may),
)

pub returns : goal.returns
returns c =
    passes c.args.leg.now (machine_of c.args.machine.now) c.args.hart c.count-count.result c.hart-state.result.now c.may_pass.result c.hart-state.ensures
    (sym c.is_halted.ensures ∙ c.if-is_halted.false) (c.count-count.ensures.value ∙ sym (ap steps_taken c.hart-state.ensures)) c.may_pass.ensures
