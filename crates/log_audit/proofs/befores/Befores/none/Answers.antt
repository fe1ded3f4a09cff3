use Rattle.std.proofs.Common.{rules, arith}
use Rattle.ft_types.specs.declared.names.TheConstants.{HART_ROW}
use Rattle.log_audit.proofs.Shown.{all_empty}
use Rattle.log_audit.proofs.befores.Befores.none.Goals as goal

pub returns : goal.returns
returns c =
    all_empty HART_ROW c.from_fn.result c.from_fn.ensures.items.long
    (λ i d lt. let s = c.from_fn.ensures.items.at i d (omega (arith, lt, c.from_fn.ensures.items.long)) in let k = s.2 in search rules)
