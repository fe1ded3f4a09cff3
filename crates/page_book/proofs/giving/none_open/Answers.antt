use Rattle.std.proofs.Common.{rules, arith, None}
use Rattle.ft_types.specs.declared.names.TheConstants.{HART_ROW}
use Rattle.ft_types.proofs.Zips.{all_alike}
use Rattle.page_book.proofs.giving.none_open.Goals as goal

pub returns : goal.returns
returns c =
    all_alike c.from_fn.result HART_ROW None c.from_fn.ensures.items.long
    (λ i d lt. let s = c.from_fn.ensures.items.at i d (omega (arith, lt, c.from_fn.ensures.items.long)) in let k = s.2 in search rules)
