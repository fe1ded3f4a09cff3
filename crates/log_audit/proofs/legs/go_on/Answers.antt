use Rattle.std.proofs.Common.{length, subst, sym, ◌∙◌}
use Rattle.guest_image.specs.Machine.{MachineState}
use Rattle.hart_replay.specs.Plans.{IsLeg}
use Rattle.log_audit.proofs.Rounds.{as_many, went_on, round_went}
use Rattle.log_audit.proofs.legs.go_on.Goals as goal

pub loop-clash-preserved : goal.loop-clash-preserved
loop-clash-preserved c =
    round_went c.args.leg.now c.args.harts.now c.loop-clash.harts c.go_round.new.harts c.loop-clash.invariant.0
    (went_on c.args.leg.now c.args.many c.loop-clash.harts c.go_round.new.harts c.in_ok-go_round.field-0 c.in_ok-go_round.ensures.turns c.in-Went.is)

pub loop-clash-smaller : goal.loop-clash-smaller
loop-clash-smaller c =
    (went_on c.args.leg.now c.args.many c.loop-clash.harts c.go_round.new.harts c.in_ok-go_round.field-0 c.in_ok-go_round.ensures.turns c.in-Went.is).fewer

pub go_round-requires-clause-many : goal.go_round-requires-clause-many
go_round-requires-clause-many c =
    c.requires.many
    ∙ sym (as_many c.args.leg.now c.args.harts.now c.loop-clash.harts c.requires.on c.loop-clash.invariant.1 c.loop-clash.invariant.0)

pub go_round-requires-clause-leg : goal.go_round-requires-clause-leg
go_round-requires-clause-leg c =
    subst (λ (m : MachineState). IsLeg (length m.harts) c.args.leg.now) (sym c.loop-clash.invariant.0) c.requires.leg
