use Rattle.std.proofs.Common.{◌≡◌, length, ap, subst, ◌∙◌}
use Rattle.guest_image.specs.Machine.{MachineState}
use Rattle.book_modes.specs.Recordings.{RecordingView}
use Rattle.page_book.specs.Books.{BookView}
use Rattle.primary.specs.Primaries.{no_limits}
use Rattle.leading.specs.Leaders.{AreInLimit, BeginBehind}
use Rattle.leading.proofs.Counting.{begun_handed}
use Rattle.leading.proofs.Beginning.{begins_sound}
use Rattle.leading.proofs.leader.Leader.go_live.Goals as goal

pub invariant_of-leader : goal.invariant_of-leader
invariant_of-leader c = rw (c.in-Ok-boxed_both.ensures.0, c.in-Ok-boxed_both.ensures.1) (
  begins_sound c.args.image.now c.args.quorum c.args.term c.args.given.now c.in_ok-primary.primary c.in_ok-primary.gate c.in-Ok.queues.items
      c.in_ok-primary.ensures.goes (c.in-Ok.ensures.harts ∙ ap (λ (m : MachineState). length m.harts) c.machine.ensures.value),
  c.in_ok-primary.ensures.goes.live.gate.of_keepers,
  c.in_ok-primary.ensures.marks,
  begun_handed c.in_ok-primary.primary.book c.in-Ok.queues.items (no_limits c.args.image.now.harts) c.in_ok-primary.ensures.goes.live.unused
      (subst (λ (m : MachineState). BeginBehind m c.in-Ok.queues.items)
      (c.machine.ensures.value ∙ ap (λ (b : BookView RecordingView). b.machine) c.in_ok-primary.ensures.goes.live.begins) c.in-Ok.ensures.behind)
      (subst (λ (m : MachineState). AreInLimit m)
      (c.machine.ensures.value ∙ ap (λ (b : BookView RecordingView). b.machine) c.in_ok-primary.ensures.goes.live.begins) c.in-Ok.ensures.limit),
)

pub returns-clause-queues : goal.returns-clause-queues
returns-clause-queues c =
    rw (c.in-Ok-boxed_both.ensures.0) (subst (λ (m : MachineState). BeginBehind m c.in-Ok.queues.items)
    (c.machine.ensures.value ∙ ap (λ (b : BookView RecordingView). b.machine) c.in_ok-primary.ensures.goes.live.begins) c.in-Ok.ensures.behind)

pub returns-clause-live : goal.returns-clause-live
returns-clause-live c = rw (c.in-Ok-boxed_both.ensures.0, c.in-Ok-boxed_both.ensures.1) c.in_ok-primary.ensures.goes
