use Rattle.std.proofs.Common.{◌≡◌, List, OnOk, OnErr, ap, subst, ◌∙◌}
use Rattle.term_gate.specs.TermGates.{TermGateView}
use Rattle.primary.specs.declared.granted.Primary.{Primary}
use Rattle.primary.specs.declared.released.Released.{Released}
use Rattle.requests.specs.Queues.{QueueView}
use Rattle.leading.specs.Hearing.{LetsGo, LetsNothingGo}
use Rattle.leading.specs.Leaders.{LeaderView}
use Rattle.leading.proofs.Offering.{rising}
use Rattle.leading.proofs.Releasing.{goes, stays, marks_stay, noted_handed, released_sound}
use Rattle.leading.proofs.leader.Leader.release.Goals as goal

pub release-requires : goal.release-requires
release-requires c = rw (c.deref_mut.ensures.value, c.deref_mut-2.ensures.value) c.self.invariant.0.offered

pub invariant_of-self : goal.invariant_of-self
invariant_of-self c =
    let p = c.self.inside.primary.value in
    let g = c.self.inside.gate.value in
    let h = c.release.new.gate in
    let does = rw (c.deref_mut.ensures.value, c.deref_mut-2.ensures.value) at c.release.ensures in (
      released_sound p c.release.new.self g h c.self.inside.queues.items c.self.inside.released.items c.release.new.released.items c.release.result does.goes
          does.room does.book does.rest does.gate does.offered c.self.invariant.0,
      ap (λ (x : TermGateView). x.gate.keepers) does.gate ∙ c.self.invariant.1,
      λ hart.
          marks_stay p.opening.term p.book.machine g h c.self.inside.released.items c.release.new.released.items p.book c.release.new.self.book c.release.result
          does.goes does.was hart ∙ c.self.invariant.2 hart,
      noted_handed p.opening.term p.book.machine g h c.self.inside.queues.items c.self.inside.released.items c.release.new.released.items p.book
          c.release.new.self.book c.release.result does.goes does.room does.book c.self.invariant.3,
    )

abbrev view_of : Primary → TermGateView → List QueueView → List Released → LeaderView
view_of p g queues released = record { primary = p; gate = g; queues = queues; released = released }

pub returns-clause-lets : goal.returns-clause-lets
returns-clause-lets c =
    let does = rw (c.deref_mut.ensures.value, c.deref_mut-2.ensures.value) at c.release.ensures in
    let old = view_of c.self.inside.primary.value c.self.inside.gate.value c.self.inside.queues.items c.self.inside.released.items in
    let new = view_of c.release.new.self c.release.new.gate c.self.inside.queues.items c.release.new.released.items in
    subst (λ (o : LeaderView). OnOk c.release.result (LetsGo o o.gate new)) c.self.view_is (goes old new c.release.result does.goes)

pub returns-clause-nothing : goal.returns-clause-nothing
returns-clause-nothing c =
    let does = rw (c.deref_mut.ensures.value, c.deref_mut-2.ensures.value) at c.release.ensures in
    let old = view_of c.self.inside.primary.value c.self.inside.gate.value c.self.inside.queues.items c.self.inside.released.items in
    let new = view_of c.release.new.self c.release.new.gate c.self.inside.queues.items c.release.new.released.items in
    subst (λ (o : LeaderView). OnErr c.release.result (LetsNothingGo o o.gate new)) c.self.view_is
    (stays old new c.release.result does.was (does.offered (rising old.primary.book.machine c.self.invariant.0.tidy)) does.none does.room does.book)

pub returns-clause-rest : goal.returns-clause-rest
returns-clause-rest c =
    let does = rw (c.deref_mut.ensures.value, c.deref_mut-2.ensures.value) at c.release.ensures in
    let n = view_of c.release.new.self c.release.new.gate c.self.inside.queues.items c.release.new.released.items in
    subst
    (λ (o : LeaderView). n ≡ record o { primary = record o.primary { book = n.primary.book }; gate = n.gate; released = n.released }) c.self.view_is
    (ap (λ (p : Primary). let x : LeaderView = record n { primary = p } in x) does.rest)
