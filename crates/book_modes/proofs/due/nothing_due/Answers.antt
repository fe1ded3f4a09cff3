use Rattle.std.proofs.Common.{rules, arith}
use Rattle.ft_types.specs.declared.names.TheConstants.{HART_ROW}
use Rattle.ft_types.proofs.Zips.{all_alike}
use Rattle.book_modes.specs.Dues.{nothing_due}
use Rattle.book_modes.proofs.due.nothing_due.Goals as goal

pub returns : goal.returns
returns c =
    all_alike c.from_fn.result HART_ROW nothing_due c.from_fn.ensures.items.long
    (λ i d lt. let s = c.from_fn.ensures.items.at i d (omega (arith, lt, c.from_fn.ensures.items.long)) in let k = s.2 in search rules)
