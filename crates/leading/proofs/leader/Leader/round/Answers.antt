use Rattle.std.proofs.Common.{◌≡◌, sym, ap, subst, ◌∙◌}
use Rattle.guest_image.specs.Machine.{MachineState}
use Rattle.book_modes.specs.Recordings.{RecordingView}
use Rattle.page_book.specs.Books.{BookView}
use Rattle.term_gate.specs.TermGates.{TermGateView}
use Rattle.primary.specs.declared.granted.Primary.{Primary}
use Rattle.primary.specs.Gating.{AreOffered, AreAllOffered}
use Rattle.leading.specs.Leaders.{LeaderView}
use Rattle.leading.specs.Rounds.{IsRound}
use Rattle.leading.proofs.Counting.{gone_on_handed, hands_handed}
use Rattle.leading.proofs.Round.{offered, sound}
use Rattle.leading.proofs.leader.Leader.round.Goals as goal

pub offer_all-requires : goal.offer_all-requires
offer_all-requires c =
    let s = c.self.invariant.0 in
    let given = rw c.into_inner-primary.ensures at c.in_ok-hand_all.ensures in
    let led = c.in_ok-led.ensures in
    rw c.deref_mut.ensures.value (subst (λ (m : MachineState). AreOffered c.self.inside.gate.value.gate m) (sym c.machine.ensures.value)
    (offered c.self.inside.primary.value c.hand_all.new.primary c.self.inside.gate.value c.self.inside.queues.items s given.goes_on given.rest given.limits
    c.args.steps c.in_ok-led.led led.on (rw c.into_inner-primary.ensures at c.has_run.ensures) c.has_run-2.ensures led.opening led.sealed))

pub invariant_of-result : goal.invariant_of-result
invariant_of-result c =
    let given = rw c.into_inner-primary.ensures at c.in_ok-hand_all.ensures in
    let led = c.in_ok-led.ensures in
    let h = c.offer_all.new.gate in
    let more = rw c.deref_mut.ensures.value at c.in_ok-offer_all.ensures.more in
    let all = subst (λ (m : MachineState). AreAllOffered h.gate m) c.machine.ensures.value c.in_ok-offer_all.ensures.all in rw c.in_ok-primary.ensures (
      sound c.self.inside.primary.value c.hand_all.new.primary c.self.inside.gate.value c.self.inside.queues.items c.self.invariant.0 given.goes_on given.rest
          given.limits c.args.steps c.in_ok-led.led led.on (rw c.into_inner-primary.ensures at c.has_run.ensures) c.has_run-2.ensures led.opening led.sealed h c.hand_all.new.queues.items more
          all given.many,
      ap (λ (x : TermGateView). x.gate.keepers) more.rest ∙ c.self.invariant.1,
      λ hart. (more.lines hart).mark ∙ c.self.invariant.2 hart,
      gone_on_handed c.hand_all.new.primary.book c.in_ok-led.led.book c.hand_all.new.queues.items led.on.on.start led.on.offered
          (hands_handed c.args.spacing c.self.inside.primary.value.book c.hand_all.new.primary.book c.self.inside.queues.items c.hand_all.new.queues.items
          (rw c.into_inner-primary.ensures at c.has_run.ensures).harts
          (ap (λ (x : Primary). x.book) given.rest
          ∙ ap (λ (m : RecordingView). let x : BookView RecordingView = record c.self.inside.primary.value.book { mode = m } in x) given.waiting)
          given.hands c.self.invariant.3),
    )

pub returns-clause-round : goal.returns-clause-round
returns-clause-round c =
    let given = rw c.into_inner-primary.ensures at c.in_ok-hand_all.ensures in
    let old : LeaderView = record {
      primary = c.self.inside.primary.value;
      gate = c.self.inside.gate.value;
      queues = c.self.inside.queues.items;
      released = c.self.inside.released.items;
    } in
    let new : LeaderView = record {
      primary = c.in_ok-led.led;
      gate = c.offer_all.new.gate;
      queues = c.hand_all.new.queues.items;
      released = c.self.inside.released.items;
    } in
    let q = c.hand_all.new.primary.book in
    rw c.in_ok-primary.ensures (subst (λ (o : LeaderView). IsRound c.args.spacing c.args.steps o new) c.self.view_is
    (record {
      given = q;
      handed = given.goes_on;
      book = ap (λ (x : Primary). x.book) given.rest
          ∙ ap (λ (m : RecordingView). let x : BookView RecordingView = record c.self.inside.primary.value.book { mode = m } in x) given.waiting;
      bells = given.bells;
      hands = given.hands;
      on = c.in_ok-led.ensures.on;
    }))
