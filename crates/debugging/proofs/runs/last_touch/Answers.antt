use Rattle.std.proofs.Common.{[], ◌∷◌}
use Rattle.debugging.proofs.Lines.{led_on}
use Rattle.debugging.proofs.Reporting.{at_begin}
use Rattle.debugging.proofs.runs.last_touch.Goals as goal

pub returns-in-Begin : goal.returns-in-Begin
returns-in-Begin c = record {
  line = led_on c.args.line.now c.back_until.new.self c.back_until.ensures.line;
  last = at_begin (c.args.point ∷ []) c.args.line.now c.back_until.new.self c.in_ok-back_until.field-0 c.in-Begin.is c.in_ok-back_until.ensures.stopped;
}
