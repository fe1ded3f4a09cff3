use Rattle.std.proofs.Common.{slice_get, ap, ◌∙◌}
use Rattle.rv32_hart.specs.Ram.{Ram, may_write}
use Rattle.hart_lease.specs.Slots.{ram_of}
use Rattle.leading.proofs.GoingRound.{both_wait, none_writable, not_heard}
use Rattle.leading.proofs.waiting.waits.Goals as goal

pub comes_round-requires : goal.comes_round-requires
comes_round-requires c = λ page. ap (λ (r : Ram). may_write r page) c.requires.pages ∙ none_writable c.args.machine.now.pages page

pub returns-then-has_heard_all-clause-waits : goal.returns-then-has_heard_all-clause-waits
returns-then-has_heard_all-clause-waits c = λ h at.
    both_wait c.args.machine.now c.args.hart c.hart-state.result.now h (ram_of c.args.pages.now) (slice_get c.args.machine.now.harts c.args.hart)
    c.has_heard_all.result c.comes_round.result c.hart-state.ensures at c.requires.pages c.if-has_heard_all.true c.has_heard_all.ensures
    c.comes_round.ensures.round

pub returns-else-has_heard_all-clause-waits : goal.returns-else-has_heard_all-clause-waits
returns-else-has_heard_all-clause-waits c = λ h at.
    not_heard c.args.machine.now c.args.hart c.hart-state.result.now h (slice_get c.args.machine.now.harts c.args.hart) c.has_heard_all.result
    c.hart-state.ensures at c.if-has_heard_all.false c.has_heard_all.ensures
