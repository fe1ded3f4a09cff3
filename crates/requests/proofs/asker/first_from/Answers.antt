use Rattle.std.proofs.Common.{arith}
use Rattle.requests.proofs.Opens.{open_within, open_at_most, open_past}
use Rattle.requests.proofs.asker.first_from.Goals as goal

pub returns-then-is_none : goal.returns-then-is_none
returns-then-is_none c = omega (
  arith,
  c.loop-number.invariant,
  open_at_most c.args.answers.now c.loop-number.number c.if-is_none.ensures c.loop-number-test.true,
)

pub loop-number-preserved : goal.loop-number-preserved
loop-number-preserved c = omega (arith, open_past c.args.answers.now c.loop-number.number c.loop-number.invariant c.if-is_none.ensures)

pub returns : goal.returns
returns c = omega (arith, open_within c.args.answers.now, c.loop-number-test.false, c.loop-number.invariant)
