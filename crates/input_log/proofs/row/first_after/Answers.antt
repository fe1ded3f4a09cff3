use Rattle.std.proofs.Common.{leb, rules}
use Rattle.std.proofs.lemmas.Bool.{leb-true, leb-false}
use Rattle.std.proofs.lemmas.List.Sorted.{IsPartitionPoint-from_clause, IsPartitionedBy-leb}
use Rattle.input_log.proofs.row.first_after.Goals as goal

pub returns-clause-upto : goal.returns-clause-upto
returns-clause-upto c =
    let p =
    IsPartitionPoint-from_clause (λ y. leb y c.args.count) c.args.counts.now c.partition_point.result c.partition_point.ensures.partitioned
    (IsPartitionedBy-leb (λ n. n) c.args.counts.now c.args.count c.requires) (λ a r f k. search rules) in
    λ k d a b. leb-true _ _ (p.0 k d a b)

pub returns-clause-after : goal.returns-clause-after
returns-clause-after c =
    let p =
    IsPartitionPoint-from_clause (λ y. leb y c.args.count) c.args.counts.now c.partition_point.result c.partition_point.ensures.partitioned
    (IsPartitionedBy-leb (λ n. n) c.args.counts.now c.args.count c.requires) (λ a r f k. search rules) in
    λ k d a b. leb-false _ _ (p.1 k d a b)
