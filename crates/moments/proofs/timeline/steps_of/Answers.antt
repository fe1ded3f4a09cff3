use Rattle.std.proofs.Common.{◌∙◌, ap, sum}
use Rattle.moments.proofs.Lines.{ends_last}
use Rattle.moments.proofs.timeline.steps_of.Goals as goal

pub returns-in-Some : goal.returns-in-Some
returns-in-Some c = c.steps_in.ensures ∙ ap sum (ends_last c.args.legs.now c.in-Some.leg.now c.in-Some.ensures.value)
