use Rattle.std.proofs.Common.{◌≡◌, refl, ap, subst}
use Rattle.process_world.specs.Happenings.{IsRoundOf}
use Rattle.live_world.specs.Happenings.{AtSeat}
use Rattle.live_world.specs.Seats.{RunsNot}
use Rattle.live_world.specs.Views.{LiveView, GoesTo}
use Rattle.live_world.specs.contracts.parts.LiveParts.{the_view}
use Rattle.live_world.proofs.Leading.{with_led, at_seat, seat_there, unmoved, end_goes, round_goes}
use Rattle.live_world.proofs.parts.LiveParts.round.Goals as goal

pub returns-in_default-clause-refused : goal.returns-in_default-clause-refused
returns-in_default-clause-refused c =
    (c.args.primary, refl, subst (λ (v : LiveView). RunsNot v.led c.args.primary) c.self.view_is c.in_default.ensures.none.1)

pub returns-in_default-clause-goes : goal.returns-in_default-clause-goes
returns-in_default-clause-goes c =
    let old = the_view c.self.inside in
    let new = with_led old c.take_leader.new.led.items in
    subst (λ (v : LiveView). GoesTo v new) c.self.view_is (unmoved old new.led c.in_default.ensures.none.0)

pub put_leader-requires : goal.put_leader-requires
put_leader-requires c =
    let taken = c.in-Some.ensures.some in
    seat_there (the_view c.self.inside).led c.take_leader.new.led.items c.args.primary _ _ taken.0 taken.1

pub returns-in_err-leader-clause-goes : goal.returns-in_err-leader-clause-goes
returns-in_err-leader-clause-goes c =
    let old = the_view c.self.inside in
    let new = with_led old c.take_leader.new.led.items in
    let taken = c.in-Some.ensures.some in
    subst (λ (v : LiveView). GoesTo v new) c.self.view_is
    (end_goes old new c.args.primary (record { leader = c.in-Some.leader; there = taken.0; rest = ap (with_led old) taken.1 }))

pub returns-clause-happens : goal.returns-clause-happens
returns-clause-happens c =
    let old = the_view c.self.inside in
    let new = with_led old c.put_leader.new.led.items in
    let went : IsRoundOf c.args.spacing c.args.steps c.in-Some.leader c.in_ok-leader.leader =
    (let is = c.in_ok-leader.ensures in
    record { opening = is.opening; round = is.round; sealed = is.sealed; gate = is.gate; offered = is.offered; released = is.released }) in
    subst (λ (v : LiveView). AtSeat v c.args.primary (IsRoundOf c.args.spacing c.args.steps) new × (new ≡ with_led v new.led)) c.self.view_is (
      at_seat old c.args.primary (IsRoundOf c.args.spacing c.args.steps) new c.in-Some.leader c.in_ok-leader.leader c.take_leader.new.led.items
          c.in-Some.ensures.some c.put_leader.ensures went,
      refl,
    )

pub returns-clause-goes : goal.returns-clause-goes
returns-clause-goes c =
    let old = the_view c.self.inside in
    let new = with_led old c.put_leader.new.led.items in
    let went : IsRoundOf c.args.spacing c.args.steps c.in-Some.leader c.in_ok-leader.leader =
    (let is = c.in_ok-leader.ensures in
    record { opening = is.opening; round = is.round; sealed = is.sealed; gate = is.gate; offered = is.offered; released = is.released }) in
    subst (λ (v : LiveView). GoesTo v new) c.self.view_is
    (round_goes old new c.args.primary c.args.steps c.args.spacing
    (at_seat old c.args.primary (IsRoundOf c.args.spacing c.args.steps) new c.in-Some.leader c.in_ok-leader.leader c.take_leader.new.led.items
    c.in-Some.ensures.some c.put_leader.ensures went) refl)
