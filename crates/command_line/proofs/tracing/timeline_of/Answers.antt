use Rattle.std.proofs.Common.{map}
use Rattle.command_line.proofs.Placed.{joined_line}
use Rattle.command_line.proofs.tracing.timeline_of.Goals as goal

pub returns-in-Ok : goal.returns-in-Ok
returns-in-Ok g c =
    joined_line c.args.image.now c.guest.result (map g.R.Source.left c.args.readers.now) c.in_ok-store.store c.in_ok-plan.plan.legs c.in-Ok.line c.guest.ensures
    c.in_ok-store.ensures.ok c.in_ok-plan.ensures.planned c.in-Ok.ensures.plan c.in-Ok.ensures.start c.in-Ok.ensures.moment
