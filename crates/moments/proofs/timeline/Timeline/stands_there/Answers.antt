use Rattle.moments.proofs.Lines.{leads_here, turned_here}
use Rattle.moments.proofs.timeline.Timeline.stands_there.Goals as goal

pub returns-clause-leads : goal.returns-clause-leads
returns-clause-leads c = leads_here _ _ _ _ _ _ c.self.invariant.0 _ c.self.view_is

pub returns-clause-turned : goal.returns-clause-turned
returns-clause-turned c = turned_here _ _ _ _ _ _ c.self.invariant.0 _ c.self.view_is
