use Rattle.std.proofs.Common.{◌<◌, length, sym, subst, arith}
use Rattle.plan_lines.specs.Line.{LineView}
use Rattle.moments.specs.machinery.Machines.{standing_of}
use Rattle.moments.proofs.Taking.{next_here, quiet_here, room_here, room_in_view, quiet_went, gone_on}
use Rattle.moments.proofs.timeline.Timeline.take.Goals as goal

pub take_step-requires-clause-hart : goal.take_step-requires-clause-hart
take_step-requires-clause-hart c = subst (λ (v : LineView). c.args.hart < length v.stands.machine.harts) (sym c.self.view_is) c.requires.there

pub take_step-requires-clause-next : goal.take_step-requires-clause-next
take_step-requires-clause-next c =
    next_here _ _ _ _ _ _ c.self.invariant.0 c.args.self.now c.self.view_is c.requires.place c.legs-legs.result.now c.legs-legs.ensures.legs
    c.index-legs-place.result c.index-legs-place.is c.args.hart c.requires.next

pub take_step-requires-clause-quiet : goal.take_step-requires-clause-quiet
take_step-requires-clause-quiet c =
    quiet_here _ _ _ _ _ _ c.self.invariant.0 c.args.self.now c.self.view_is c.requires.place c.legs-legs.result.now c.legs-legs.ensures.legs
    c.index-legs-place.result c.index-legs-place.is

pub take_step-requires-clause-room : goal.take_step-requires-clause-room
take_step-requires-clause-room c =
    let lt =
    room_here _ _ _ _ _ _ c.self.invariant.0 c.args.self.now c.self.view_is c.requires.place c.legs-legs.result.now c.legs-legs.ensures.legs
    c.index-legs-place.result c.index-legs-place.is c.args.hart c.requires.next in
    omega (arith, lt, c.self.invariant.1, c.self.ranges)

pub returns-in_err-take_step-clause-room : goal.returns-in_err-take_step-clause-room
returns-in_err-take_step-clause-room c =
    room_in_view _ _ _ _ _ _ c.self.invariant.0 c.args.self.now c.self.view_is c.requires.place c.legs-legs.result.now c.legs-legs.ensures.legs
    c.index-legs-place.result c.index-legs-place.is c.args.hart c.requires.next

pub returns-clause-room : goal.returns-clause-room
returns-clause-room c =
    room_in_view _ _ _ _ _ _ c.self.invariant.0 c.args.self.now c.self.view_is c.requires.place c.legs-legs.result.now c.legs-legs.ensures.legs
    c.index-legs-place.result c.index-legs-place.is c.args.hart c.requires.next

pub turn-requires-clause-quiet : goal.turn-requires-clause-quiet
turn-requires-clause-quiet c =
    rw c.legs-legs.ensures.legs
    (quiet_went _ _ _ _ _ _ c.self.invariant.0 c.args.self.now c.self.view_is c.requires.place c.legs-legs.result.now c.legs-legs.ensures.legs
    c.index-legs-place.result c.index-legs-place.is (standing_of c.take_step.new.now) c.take_step.new.stops c.take_step.ensures.place
    c.in_ok-take_step.ensures.quiet)

pub invariant_of-self-2 : goal.invariant_of-self-2
invariant_of-self-2 c = (
  gone_on _ _ _ _ _ _ c.self.invariant.0 c.args.self.now c.self.view_is c.requires.place c.legs-legs.result.now c.legs-legs.ensures.legs
      c.index-legs-place.result c.index-legs-place.is c.args.hart c.requires.next (standing_of c.take_step.new.now) (standing_of c.turn.new.now)
      c.turn.new.stops c.in_ok-take_step.ensures.steps c.take_step.ensures.place c.in_ok-take_step.ensures.moment
      (rw c.legs-legs.ensures.legs at c.turn.ensures.leads) (rw c.legs-legs.ensures.legs at c.turn.ensures.place)
      (rw c.legs-legs.ensures.legs at c.turn.ensures.turned) (rw c.legs-legs.ensures.legs at c.turn.ensures.quiet),
  c.self.invariant.1,
)
