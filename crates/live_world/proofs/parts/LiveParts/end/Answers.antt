use Rattle.std.proofs.Common.{refl, ap, subst}
use Rattle.live_world.specs.Seats.{RunsNot}
use Rattle.live_world.specs.Views.{LiveView, GoesTo}
use Rattle.live_world.specs.contracts.parts.LiveParts.{the_view}
use Rattle.live_world.proofs.Leading.{with_led, unmoved, end_goes}
use Rattle.live_world.proofs.parts.LiveParts.end.Goals as goal
use Rattle.live_world.proofs.parts.LiveParts.end.Goals.{in-Some, in-None}

pub returns-clause-refused : goal.returns-clause-refused
returns-clause-refused c =
    elim c.match-take_leader.branch [
      | in-Some w ↦ rw w.result-is tt
      | in-None w ↦ rw w.result-is (c.args.primary, refl, subst (λ (v : LiveView). RunsNot v.led c.args.primary) c.self.view_is w.in-None.ensures.none.1)
    ]

pub returns-clause-goes : goal.returns-clause-goes
returns-clause-goes c =
    let old = the_view c.self.inside in
    let new = with_led old c.take_leader.new.led.items in
    subst (λ (v : LiveView). GoesTo v new) c.self.view_is (elim c.match-take_leader.branch [
      | in-Some w ↦
          let taken = w.in-Some.ensures.some in end_goes old new c.args.primary (record { leader = _; there = taken.0; rest = ap (with_led old) taken.1 })
      | in-None w ↦ unmoved old new.led w.in-None.ensures.none.0
    ])
