use Rattle.std.proofs.Common.{ap, ◌∙◌, arith, count_by}
use Rattle.std.proofs.lemmas.List.{take_all}
use Rattle.ft_types.proofs.sets.HartSet.len.Goals as goal

pub returns : goal.returns
returns c =
    c.loop-number.invariant.counted ∙
    ap (count_by (λ member. member)) (take_all c.loop-number.number c.args.self (omega (arith, c.has_row.ensures, c.loop-number-test.false)))
