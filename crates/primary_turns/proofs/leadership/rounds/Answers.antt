use Rattle.leading.specs.declared.inputs.Spacing.TheVariants.{Usual}
use Rattle.primary_turns.specs.Turns.{One, More}
use Rattle.primary_turns.proofs.leadership.rounds.Goals as goal

pub loop-more-init : goal.loop-more-init
loop-more-init c =
    let does = c.in_ok-leader.ensures in
    One c.in_ok-leader.leader (record {
      spacing = c.args.spacing;
      steps = c.args.steps;
      round = does.round;
      opening = does.opening;
      sealed = does.sealed;
      gate = does.gate;
      offered = does.offered;
      released = does.released;
    })

pub loop-more-preserved : goal.loop-more-preserved
loop-more-preserved c =
    let does = c.in_ok-leader-2.ensures in
    More c.loop-more.leader c.in_ok-leader-2.leader c.loop-more.invariant (record {
      spacing = Usual;
      steps = c.args.steps;
      round = does.round;
      opening = does.opening;
      sealed = does.sealed;
      gate = does.gate;
      offered = does.offered;
      released = does.released;
    })
