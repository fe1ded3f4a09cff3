use Rattle.std.proofs.Common.{◌≡◌, ◌+◌, Some, slice_get, refl, sym, ap, subst, ◌∙◌}
use Rattle.guest_image.specs.Machine.{MachineState}
use Rattle.leading.proofs.Handing.{bells_stay, hands_nothing, hands_input}
use Rattle.leading.proofs.Onward.{goes_nowhere}
use Rattle.leading.proofs.inputs.hand_one.Goals as goal

pub returns-in_default-clause-goes_on : goal.returns-in_default-clause-goes_on
returns-in_default-clause-goes_on c = goes_nowhere c.args.primary.now.book c.tell_primary.ensures.primary c.tell_primary.ensures.leads

pub returns-in_default-clause-hands : goal.returns-in_default-clause-hands
returns-in_default-clause-hands c = λ h at.
    hands_nothing c.args.spacing (slice_get c.args.primary.now.book.machine.harts c.args.hart) c.hart-state.result.now c.args.hart c.args.queue.now
    c.args.primary.now.book.mode
    (ap (λ (m : MachineState). slice_get m.harts c.args.hart) (sym c.machine.ensures.value) ∙ c.hart-state.ensures) c.in_default.ensures.none h at

pub returns-clause-hands : goal.returns-clause-hands
returns-clause-hands c = λ h at.
    hands_input c.args.spacing (slice_get c.args.primary.now.book.machine.harts c.args.hart) c.hart-state.result.now c.args.hart c.count.result c.steps_before.result c.in-Some.input
    c.args.queue.now c.hand_on.new.self c.args.primary.now.book.mode c.offer.new.self.book.mode
    (ap (λ (m : MachineState). slice_get m.harts c.args.hart) (sym c.machine.ensures.value) ∙ c.hart-state.ensures) c.in-Some.ensures.some.0
    c.count.ensures.value c.steps_before.ensures c.hand_on.ensures.value c.in_ok-offer.ensures.offered h at

pub returns-clause-bells : goal.returns-clause-bells
returns-clause-bells c =
    bells_stay c.args.primary.now.book.mode c.offer.new.self.book.mode c.args.hart (c.count.result + c.steps_before.result) c.in-Some.input
    c.in_ok-offer.ensures.offered

pub returns-clause-waiting : goal.returns-clause-waiting
returns-clause-waiting c = c.in_ok-offer.ensures.offered.rest
