use Rattle.std.proofs.Common.{refl}
use Rattle.moments.proofs.Ending.{ended_in_leg, ended_in_none, stuck_in_leg}
use Rattle.moments.proofs.timeline.Timeline.end.Goals as goal

pub returns-in_default : goal.returns-in_default
returns-in_default c =
    let ended = ended_in_none _ _ _ _ _ _ c.self.invariant.0 c.args.self.now c.self.view_is c.in_default.ensures.none in
    record { end = (refl, ended.end); all = ended.all; fault = tt; memory = tt; stuck = tt }

pub returns-in-None : goal.returns-in-None
returns-in-None c =
    let ended =
    ended_in_leg _ _ _ _ _ _ c.self.invariant.0 c.args.self.now c.self.view_is c.in-Some.leg.now c.in-Some.ensures.some c.in-None.ensures.ends in
    record { end = (refl, ended.end); all = ended.all; fault = tt; memory = tt; stuck = tt }

pub returns-in-Some-stuck_at-clause-stuck : goal.returns-in-Some-stuck_at-clause-stuck
returns-in-Some-stuck_at-clause-stuck c =
    stuck_in_leg _ _ _ _ _ _ c.self.invariant.0 c.args.self.now c.self.view_is c.in-Some.leg.now c.in-Some-stuck_at.fault c.in-Some.ensures.some
    c.requires c.in-Some-stuck_at.ensures.fault
