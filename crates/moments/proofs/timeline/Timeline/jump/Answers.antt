use Rattle.std.proofs.Common.{◌-◌}
use Rattle.moments.specs.machinery.Machines.{standing_of}
use Rattle.moments.proofs.Turns.{quiet_none}
use Rattle.moments.proofs.Lines.{jumped, moved_line, of_line}
use Rattle.moments.proofs.timeline.Timeline.jump.Goals as goal

pub turn-requires-clause-quiet : goal.turn-requires-clause-quiet
turn-requires-clause-quiet c = quiet_none c.legs.result.now (standing_of c.args.there) c.no_stops-stops.result c.no_stops-stops.ensures

pub turn-requires-clause-place : goal.turn-requires-clause-place
turn-requires-clause-place c =
    rw c.legs.ensures.legs (of_line _ _ _ _ _ _ c.self.invariant.0 c.args.self.now c.self.view_is (standing_of c.args.there) c.requires).place

pub invariant_of-self : goal.invariant_of-self
invariant_of-self c = (
  jumped _ _ _ _ _ _ c.self.invariant.0 (standing_of c.args.there) (standing_of c.turn.new.now) c.turn.new.stops
      (of_line _ _ _ _ _ _ c.self.invariant.0 c.args.self.now c.self.view_is (standing_of c.args.there) c.requires)
      (rw c.legs.ensures.legs at c.turn.ensures.leads) (rw c.legs.ensures.legs at c.turn.ensures.place)
      (rw c.legs.ensures.legs at c.turn.ensures.turned) (rw c.legs.ensures.legs at c.turn.ensures.quiet),
  c.self.invariant.1,
)

pub returns-clause-line : goal.returns-clause-line
returns-clause-line c = moved_line _ _ _ _ _ _ c.self.invariant.0 c.args.self.now c.self.view_is (standing_of c.turn.new.now)
