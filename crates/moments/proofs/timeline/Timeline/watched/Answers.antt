use Rattle.moments.proofs.Hits.{watched_some, watched_none}
use Rattle.moments.proofs.timeline.Timeline.watched.Goals as goal

pub returns-clause-some : goal.returns-clause-some
returns-clause-some c =
    watched_some c.args.points.now c.args.self.now c.stands_there.ensures.leads c.stands_there.ensures.turned c.access.result _
    c.access.ensures.step c.first_watch.ensures.some

pub returns-clause-none : goal.returns-clause-none
returns-clause-none c =
    watched_none c.args.points.now c.args.self.now c.stands_there.ensures.leads c.stands_there.ensures.turned c.access.result _
    c.access.ensures.uses c.first_watch.ensures.none
