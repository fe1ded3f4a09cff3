use Rattle.std.proofs.Common.{true, false, arith, sym, ◌∙◌, true≢false}
use Rattle.hart_replay.proofs.Fronts.{at_place}
use Rattle.moments.specs.machinery.Machines.{standing_of}
use Rattle.moments.proofs.Turns.{not_led}
use Rattle.moments.proofs.turning.is_led.Goals as goal

pub returns-clause-led : goal.returns-clause-led
returns-clause-led c all =
    record {
      leg = c.index-legs-now.result;
      at = at_place c.args.legs.now c.args.now.now.leg c.index-legs-now.result (omega arith) c.index-legs-now.is;
      ends = c.are_at_ends.ensures.0 all;
      behind = omega arith;
    }

pub returns-clause-turned : goal.returns-clause-turned
returns-clause-turned c fewer =
    not_led c.args.legs.now (standing_of c.args.now.now) c.index-legs-now.result
    (at_place c.args.legs.now c.args.now.now.leg c.index-legs-now.result (omega arith) c.index-legs-now.is)
    (λ ends. true≢false (sym (c.are_at_ends.ensures.1 ends) ∙ fewer))
