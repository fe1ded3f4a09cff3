use Rattle.std.proofs.Common.{rules, ◌≡◌, [], arith}
use Rattle.std.specs.List.{AllByRecursion}
use Rattle.ft_types.proofs.Zips.{each_at}
use Rattle.input_log.proofs.Tables.{all_same}
use Rattle.input_log.proofs.log.InputLog.new.Goals as goal

each_empty : (c : goal.After-from_fn) → AllByRecursion (λ r. r ≡ []) c.from_fn.result
each_empty c =
    each_at _ _ (λ i d lt. let s = c.from_fn.ensures.items.at i d (omega (arith, lt, c.from_fn.ensures.items.long)) in let k = s.2 in search rules)

pub returns : goal.returns
returns c = all_same c.from_fn.result [] (each_empty c)
