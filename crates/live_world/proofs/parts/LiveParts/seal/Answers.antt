use Rattle.std.proofs.Common.{refl, subst}
use Rattle.live_world.specs.declared.event.PrimaryEvent.TheVariants as event
use Rattle.live_world.specs.declared.fault.EventFault.TheVariants.{Memory}
use Rattle.live_world.specs.Happenings.{SealsLog}
use Rattle.live_world.specs.Refusals.{PrimaryLeaves}
use Rattle.live_world.specs.Seats.{RunsNot}
use Rattle.live_world.specs.Views.{LiveView, GoesTo}
use Rattle.live_world.specs.contracts.parts.LiveParts.{the_view}
use Rattle.live_world.proofs.Leading.{with_led, with_sent, lacks, seat_there, unmoved, as_it_was, cut_at, uncut_at, lost_goes, seal_goes}
use Rattle.live_world.proofs.parts.LiveParts.seal.Goals as goal

pub returns-in_default-clause-refused : goal.returns-in_default-clause-refused
returns-in_default-clause-refused c =
    (c.args.primary, refl, subst (λ (v : LiveView). RunsNot v.led c.args.primary) c.self.view_is c.in_default.ensures.none.1)

pub returns-in_default-clause-goes : goal.returns-in_default-clause-goes
returns-in_default-clause-goes c =
    let old = the_view c.self.inside in
    let new = with_led old c.take_leader.new.led.items in
    subst (λ (v : LiveView). GoesTo v new) c.self.view_is (unmoved old new.led c.in_default.ensures.none.0)

pub put_leader-requires : goal.put_leader-requires
put_leader-requires c =
    let taken = c.in-Some.ensures.some in
    seat_there (the_view c.self.inside).led c.take_leader.new.led.items c.args.primary _ _ taken.0 taken.1

pub returns-in_err-sealed-clause-left : goal.returns-in_err-sealed-clause-left
returns-in_err-sealed-clause-left c =
    let old = the_view c.self.inside in
    let now = c.put_leader.new.led.items in
    lacks c.from_residual.result _ c.from_residual.ensures.1
    (subst (λ (v : LiveView). PrimaryLeaves v (event.Seal c.args.primary) Memory (with_led old now)) c.self.view_is
    (uncut_at old c.args.primary old.frames c.in-Some.leader c.seal-sealed.new.self c.take_leader.new.led.items now c.in-Some.ensures.some
    c.put_leader.ensures c.seal-sealed.ensures.rest refl))

pub returns-in_err-sealed-clause-goes : goal.returns-in_err-sealed-clause-goes
returns-in_err-sealed-clause-goes c =
    let old = the_view c.self.inside in
    let now = c.put_leader.new.led.items in
    subst (λ (v : LiveView). GoesTo v (with_led old now)) c.self.view_is
    (unmoved old now
    (as_it_was old c.args.primary c.in-Some.leader c.seal-sealed.new.self c.take_leader.new.led.items now c.in-Some.ensures.some c.put_leader.ensures
    c.in_err-sealed.ensures.err))

pub returns-in_err-add_all-clause-left : goal.returns-in_err-add_all-clause-left
returns-in_err-add_all-clause-left c =
    let old = the_view c.self.inside in
    let now = c.put_leader.new.led.items in
    let all = c.add_all.new.items.items in
    lacks c.from_residual-in_err-add_all.result _ c.from_residual-in_err-add_all.ensures.1
    (subst (λ (v : LiveView). PrimaryLeaves v (event.Seal c.args.primary) Memory (with_sent old all now)) c.self.view_is
    (uncut_at old c.args.primary all c.in-Some.leader c.seal-sealed.new.self c.take_leader.new.led.items now c.in-Some.ensures.some
    c.put_leader.ensures c.seal-sealed.ensures.rest c.in_err-add_all.ensures.err))

pub returns-in_err-add_all-clause-goes : goal.returns-in_err-add_all-clause-goes
returns-in_err-add_all-clause-goes c =
    let old = the_view c.self.inside in
    let now = c.put_leader.new.led.items in
    let all = c.add_all.new.items.items in
    subst (λ (v : LiveView). GoesTo v (with_sent old all now)) c.self.view_is
    (lost_goes old c.args.primary c.in_ok-sealed.field-0.items all c.in-Some.leader c.seal-sealed.new.self c.take_leader.new.led.items now
    c.in-Some.ensures.some c.put_leader.ensures (c.in_ok-sealed.ensures.cut, c.seal-sealed.ensures.rest) c.in_err-add_all.ensures.err)

pub returns-clause-happens : goal.returns-clause-happens
returns-clause-happens c =
    let old = the_view c.self.inside in
    let now = c.put_leader.new.led.items in
    let all = c.add_all.new.items.items in
    subst (λ (v : LiveView). SealsLog v c.args.primary (with_sent old all now)) c.self.view_is
    (cut_at old c.args.primary c.in_ok-sealed.field-0.items all c.in-Some.leader c.seal-sealed.new.self c.take_leader.new.led.items now
    c.in-Some.ensures.some c.put_leader.ensures (c.in_ok-sealed.ensures.cut, c.seal-sealed.ensures.rest) c.in_ok-add_all.ensures.ok)

pub returns-clause-goes : goal.returns-clause-goes
returns-clause-goes c =
    let old = the_view c.self.inside in
    let now = c.put_leader.new.led.items in
    let all = c.add_all.new.items.items in
    let seals = cut_at old c.args.primary c.in_ok-sealed.field-0.items all c.in-Some.leader c.seal-sealed.new.self c.take_leader.new.led.items now
    c.in-Some.ensures.some c.put_leader.ensures (c.in_ok-sealed.ensures.cut, c.seal-sealed.ensures.rest) c.in_ok-add_all.ensures.ok in
    subst (λ (v : LiveView). GoesTo v (with_sent old all now)) c.self.view_is
    (seal_goes old (with_sent old all now) c.args.primary seals.frames seals.frames seals.seals (λ f has. has) seals.rest)
