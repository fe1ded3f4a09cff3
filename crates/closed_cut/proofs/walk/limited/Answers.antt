use Rattle.std.proofs.Common.{sym}
use Rattle.closed_cut.proofs.Reach.{limited_some}
use Rattle.closed_cut.proofs.walk.limited.Goals as goal

pub returns-in-Some : goal.returns-in-Some
returns-in-Some c = rw (c.meet.ensures, c.in-Some.is) (limited_some c.args.counts c.in-Some.limit (sym (c.requires c.in-Some.limit c.in-Some.is)))
