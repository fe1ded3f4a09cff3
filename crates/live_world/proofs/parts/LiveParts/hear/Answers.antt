use Rattle.std.proofs.Common.{◌<◌, length, refl, subst, arith}
use Rattle.live_world.specs.declared.event.PrimaryEvent.TheVariants as event
use Rattle.live_world.specs.declared.fault.EventFault.TheVariants.{Memory}
use Rattle.live_world.specs.Happenings.{HearsSaidAt}
use Rattle.live_world.specs.Refusals.{PrimaryLeaves}
use Rattle.live_world.specs.Seats.{RunsNot}
use Rattle.live_world.specs.Views.{LiveView, GoesTo}
use Rattle.live_world.specs.contracts.parts.LiveParts.{the_view}
use Rattle.live_world.proofs.Following.{goes_nowhere}
use Rattle.live_world.proofs.Leading.{with_led, at_index, lacks, seat_there, unmoved, heard_at, lacked_at, hear_goes, lack_goes}
use Rattle.live_world.proofs.parts.LiveParts.hear.Goals as goal

pub returns-then-said-len-clause-goes : goal.returns-then-said-len-clause-goes
returns-then-said-len-clause-goes c = goes_nowhere refl

pub returns-in_default-clause-refused : goal.returns-in_default-clause-refused
returns-in_default-clause-refused c =
    (c.args.primary, refl, subst (λ (v : LiveView). RunsNot v.led c.args.primary) c.self.view_is c.in_default.ensures.none.1)

pub returns-in_default-clause-goes : goal.returns-in_default-clause-goes
returns-in_default-clause-goes c =
    let old = the_view c.self.inside in
    let new = with_led old c.take_leader.new.led.items in
    subst (λ (v : LiveView). GoesTo v new) c.self.view_is (unmoved old new.led c.in_default.ensures.none.0)

pub put_leader-requires : goal.put_leader-requires
put_leader-requires c =
    let taken = c.in-Some.ensures.some in
    seat_there (the_view c.self.inside).led c.take_leader.new.led.items c.args.primary _ _ taken.0 taken.1

pub returns-in_err-heard-clause-left : goal.returns-in_err-heard-clause-left
returns-in_err-heard-clause-left c =
    let old = the_view c.self.inside in
    let now = c.put_leader.new.led.items in
    let less : c.args.said < length c.self.inside.said.items =
    (let many = c.len.ensures in let below = c.if-said-len.false in omega (arith, many, below)) in
    let there = at_index old.said c.args.said c.index.result.now less c.index.ensures in
    lacks c.from_residual.result _ c.from_residual.ensures.1
    (subst (λ (v : LiveView). PrimaryLeaves v (event.Hear c.args.primary c.args.said) Memory (with_led old now)) c.self.view_is
    (lacked_at old c.args.primary c.args.said c.index.result.now c.in-Some.leader c.acknowledge-heard.new.self c.take_leader.new.led.items now there
    c.in-Some.ensures.some c.put_leader.ensures c.in_err-heard.ensures.nothing c.acknowledge-heard.ensures.rest))

pub returns-in_err-heard-clause-goes : goal.returns-in_err-heard-clause-goes
returns-in_err-heard-clause-goes c =
    let old = the_view c.self.inside in
    let now = c.put_leader.new.led.items in
    let less : c.args.said < length c.self.inside.said.items =
    (let many = c.len.ensures in let below = c.if-said-len.false in omega (arith, many, below)) in
    let there = at_index old.said c.args.said c.index.result.now less c.index.ensures in
    subst (λ (v : LiveView). GoesTo v (with_led old now)) c.self.view_is
    (lack_goes old (with_led old now) c.args.primary c.args.said
    (lacked_at old c.args.primary c.args.said c.index.result.now c.in-Some.leader c.acknowledge-heard.new.self c.take_leader.new.led.items now there
    c.in-Some.ensures.some c.put_leader.ensures c.in_err-heard.ensures.nothing c.acknowledge-heard.ensures.rest))

pub returns-clause-happens : goal.returns-clause-happens
returns-clause-happens c =
    let old = the_view c.self.inside in
    let now = c.put_leader.new.led.items in
    let less : c.args.said < length c.self.inside.said.items =
    (let many = c.len.ensures in let below = c.if-said-len.false in omega (arith, many, below)) in
    let there = at_index old.said c.args.said c.index.result.now less c.index.ensures in
    subst (λ (v : LiveView). HearsSaidAt v c.args.primary c.args.said (with_led old now)) c.self.view_is
    (heard_at old c.args.primary c.args.said c.index.result.now c.in-Some.leader c.acknowledge-heard.new.self c.take_leader.new.led.items now there
    c.in-Some.ensures.some c.put_leader.ensures c.in_ok-heard.ensures.lets c.acknowledge-heard.ensures.rest)

pub returns-clause-goes : goal.returns-clause-goes
returns-clause-goes c =
    let old = the_view c.self.inside in
    let now = c.put_leader.new.led.items in
    let less : c.args.said < length c.self.inside.said.items =
    (let many = c.len.ensures in let below = c.if-said-len.false in omega (arith, many, below)) in
    let there = at_index old.said c.args.said c.index.result.now less c.index.ensures in
    subst (λ (v : LiveView). GoesTo v (with_led old now)) c.self.view_is
    (hear_goes old (with_led old now) c.args.primary c.args.said
    (heard_at old c.args.primary c.args.said c.index.result.now c.in-Some.leader c.acknowledge-heard.new.self c.take_leader.new.led.items now there
    c.in-Some.ensures.some c.put_leader.ensures c.in_ok-heard.ensures.lets c.acknowledge-heard.ensures.rest))
