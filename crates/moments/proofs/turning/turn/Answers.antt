use Rattle.std.proofs.Common.{◌+◌, arith, refl}
use Rattle.moments.specs.machinery.Machines.{standing_of}
use Rattle.moments.proofs.Turns.{quiet_none, turn_more}
use Rattle.moments.proofs.turning.turn.Goals as goal

pub loop-now-preserved : goal.loop-now-preserved
loop-now-preserved c =
    let led = c.is_led.ensures.led c.loop-now-test.true in
    let behind = led.behind in
    record {
      leads =
          turn_more c.args.legs.now (standing_of c.args.now.now) (standing_of c.loop-now.now)
          (record { place = c.loop-now.now.leg + 1; moment = c.loop-now.now.moment; machine = (standing_of c.loop-now.now).machine })
          led.leg led.at led.ends refl refl refl c.loop-now.invariant.leads;
      place = omega (arith, behind);
      moment = c.loop-now.invariant.moment;
      machine = c.loop-now.invariant.machine;
      quiet =
          quiet_none c.args.legs.now
          (record { place = c.loop-now.now.leg + 1; moment = c.loop-now.now.moment; machine = (standing_of c.loop-now.now).machine }) c.no_stops.result
          c.no_stops.ensures;
    }

pub loop-now-smaller : goal.loop-now-smaller
loop-now-smaller c =
    let led = c.is_led.ensures.led c.loop-now-test.true in
    let behind = led.behind in
    omega (arith, behind)
