use Rattle.std.proofs.Common.{◌∙◌, ap}
use Rattle.ft_types.specs.Counts.{count_at}
use Rattle.moments.proofs.Lines.{ends_last}
use Rattle.moments.proofs.timeline.end_in.Goals as goal

pub returns-in-Some : goal.returns-in-Some
returns-in-Some c =
    c.count_of.ensures.value ∙ ap (λ ends. count_at ends c.args.hart) (ends_last c.args.legs.now c.in-Some.leg.now c.in-Some.ensures.value)
