use Rattle.moments.proofs.Lines.{at_here, within_here}
use Rattle.moments.proofs.timeline.Timeline.now.Goals as goal

pub returns-clause-at : goal.returns-clause-at
returns-clause-at c = at_here _ _ _ _ _ _ c.self.invariant.0 _ c.self.view_is

pub returns-clause-within : goal.returns-clause-within
returns-clause-within c = within_here _ _ _ _ _ _ c.self.invariant.0 _ c.self.view_is
