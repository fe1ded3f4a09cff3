use Rattle.std.proofs.Common.{rules, ◌≡◌, ap, arith}
use Rattle.std.specs.List.{AllByRecursion}
use Rattle.ft_types.proofs.Zips.{each_at}
use Rattle.input_log.specs.Waiting.{Queues, empty}
use Rattle.input_log.proofs.Tables.{all_same}
use Rattle.input_log.proofs.desk.Desk.new.Goals as goal

each_empty : (c : goal.After-from_fn) → AllByRecursion (λ q. q ≡ empty) c.from_fn.result
each_empty c =
    each_at _ _ (λ i d lt. let s = c.from_fn.ensures.items.at i d (omega (arith, lt, c.from_fn.ensures.items.long)) in let k = s.2 in search rules)

pub returns-clause-bells : goal.returns-clause-bells
returns-clause-bells c = λ hart. ap (λ (q : Queues). q.bells) (all_same c.from_fn.result empty (each_empty c) hart)

pub returns-clause-others : goal.returns-clause-others
returns-clause-others c = λ hart. ap (λ (q : Queues). q.others) (all_same c.from_fn.result empty (each_empty c) hart)
