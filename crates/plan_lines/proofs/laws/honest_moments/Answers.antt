use Rattle.hart_replay.proofs.honesty.Images.{honest_in}
use Rattle.hart_replay.proofs.honesty.Replays.{at_position}
use Rattle.plan_lines.specs.Line.{standing_at}
use Rattle.plan_lines.proofs.Moves.{one_machine}
use Rattle.plan_lines.proofs.Cutting.{counts_are_cuts}
use Rattle.plan_lines.proofs.Histories.{ends_are_outcomes}
use Rattle.plan_lines.proofs.Telling.{moments_tell}
use Rattle.plan_lines.proofs.laws.honest_moments.Goals as goal

pub returns-clause-one : goal.returns-clause-one
returns-clause-one c legs start moment one other first second =
    one_machine legs (standing_at start) (record { place = first.0; moment = moment; machine = one }) (record { place = second.0; moment = moment; machine = other })
    first.1 second.1 (λ i. moment)

pub returns-clause-cuts : goal.returns-clause-cuts
returns-clause-cuts c = counts_are_cuts

pub returns-clause-outcomes : goal.returns-clause-outcomes
returns-clause-outcomes c = ends_are_outcomes

pub returns-clause-tell : goal.returns-clause-tell
returns-clause-tell c image legs leg t on last ends history store position rules honest planned =
    at_position image legs history store position rules (honest_in image history store honest) planned t.machine
    (ends_are_outcomes image legs leg t on last ends)

pub returns-clause-moments : goal.returns-clause-moments
returns-clause-moments c = moments_tell
