use Rattle.std.proofs.Common.{rules, ◌≡◌, [], arith}
use Rattle.std.specs.List.{AllByRecursion}
use Rattle.ft_types.proofs.Zips.{each_at}
use Rattle.edge_log.proofs.Logs.{no_edges, none_at_all, empty_log}
use Rattle.edge_log.proofs.log.EdgeLog.new.Goals as goal

each_empty : (c : goal.After-from_fn) → AllByRecursion (λ r. r.edges ≡ []) c.from_fn.result
each_empty c =
    each_at _ _ (λ i d lt. let s = c.from_fn.ensures.items.at i d (omega (arith, lt, c.from_fn.ensures.items.long)) in let k = s.2 in search rules)

pub invariant_of-result : goal.invariant_of-result
invariant_of-result c = empty_log c.args.start c.from_fn.result (search rules) c.from_fn.ensures.items.long (each_empty c)

pub returns-clause-edges : goal.returns-clause-edges
returns-clause-edges c = none_at_all c.from_fn.result (each_empty c)

pub returns-clause-rows : goal.returns-clause-rows
returns-clause-rows c = no_edges c.from_fn.result (each_empty c)
