use Rattle.std.proofs.Common.{refl, sym, ap, ◌∙◌, arith}
use Rattle.leading.proofs.GoingRound.{all_readable, one_readable}
use Rattle.leading.proofs.waiting.pages_of.Goals as goal

pub returns : goal.returns
returns c =
    all_readable c.args.machine.now.pages c.loop-number.pages c.loop-number.invariant.many
    (λ page lt. c.loop-number.invariant.same page (omega (arith, lt, c.loop-number-test.false, c.pages-number-end.ensures.value)))
