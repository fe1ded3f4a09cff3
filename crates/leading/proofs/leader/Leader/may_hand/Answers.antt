use Rattle.std.proofs.Common.{◌≡◌, ◌↔◌, ℕ, Some, false, List, slice_get, ap, subst, ◌∙◌}
use Rattle.rv32_hart.specs.Hart.{Hart}
use Rattle.guest_image.specs.Machine.{MachineState}
use Rattle.primary.specs.declared.granted.Primary.{Primary}
use Rattle.requests.specs.Queues.{QueueView}
use Rattle.leading.specs.Clients.{GaveWords}
use Rattle.leading.specs.Leaders.{AreHandedOn, LeaderView, queue_at}
use Rattle.leading.specs.Rounds.{NoneIsHanded}
use Rattle.leading.proofs.Given.{gave_words}
use Rattle.leading.proofs.leader.Leader.may_hand.Goals as goal

pub returns-clause-handed : goal.returns-clause-handed
returns-clause-handed c =
    subst (λ (l : LeaderView). (c.has_input.result ≡ false) ↔ NoneIsHanded l.primary.book.machine l.queues) c.self.view_is
    (subst (λ (m : MachineState). (c.has_input.result ≡ false) ↔ NoneIsHanded m c.self.inside.queues.items)
    (c.machine.ensures.value ∙ ap (λ (p : Primary). p.book.machine) c.deref.ensures)
    (subst (λ (qs : List QueueView). (c.has_input.result ≡ false) ↔ NoneIsHanded c.machine.result.now qs) c.deref-2.ensures.value c.has_input.ensures))

pub returns-clause-counted : goal.returns-clause-counted
returns-clause-counted c = subst (λ (l : LeaderView). AreHandedOn l.primary.book l.queues) c.self.view_is c.self.invariant.3

pub returns-clause-given : goal.returns-clause-given
returns-clause-given c =
    let leads = rw c.deref.ensures at c.machine.ensures.run in
    let within = rw (c.inputs-inputs.ensures.value, c.deref.ensures) at c.inputs-inputs.ensures.within in
    subst
    (λ (l : LeaderView). (hart : ℕ) (h : Hart) → slice_get l.primary.book.start.harts hart ≡ Some h → GaveWords l.primary.book hart) c.self.view_is
    (λ hart h at.
    gave_words c.self.inside.primary.value.book hart h (queue_at c.self.inside.queues.items hart) leads (within hart) at (c.self.invariant.3 hart h at))
