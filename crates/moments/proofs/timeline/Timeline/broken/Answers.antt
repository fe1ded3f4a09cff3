use Rattle.moments.proofs.Hits.{none_breaks, broken_some, broken_none}
use Rattle.moments.proofs.timeline.Timeline.broken.Goals as goal

pub returns-in-Some : goal.returns-in-Some
returns-in-Some c =
    record {
      some =
          broken_some c.args.points.now c.args.self.now c.stands_there.ensures.leads c.stands_there.ensures.turned c.in-Some.hart
          c.in-Some.ensures.place c.in-Some.ensures.next c.hart.result.now c.hart.ensures c.pc.result c.pc.ensures _ c.first_break.ensures.some;
      none =
          broken_none c.args.points.now c.args.self.now c.stands_there.ensures.leads c.stands_there.ensures.turned c.in-Some.hart
          c.in-Some.ensures.place c.in-Some.ensures.next c.hart.result.now c.hart.ensures c.pc.result c.pc.ensures _ c.first_break.ensures.none;
    }

pub returns-in-None-clause-none : goal.returns-in-None-clause-none
returns-in-None-clause-none c =
    none_breaks c.args.points.now c.args.self.now c.stands_there.ensures.leads c.stands_there.ensures.turned c.in-None.ensures.none
