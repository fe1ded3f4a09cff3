use Rattle.std.proofs.Common.{ltb, rules}
use Rattle.std.proofs.lemmas.Bool.{ltb-true, ltb-false}
use Rattle.std.proofs.lemmas.List.Sorted.{IsPartitionPoint-from_clause, IsPartitionedBy-ltb}
use Rattle.input_log.proofs.note_row.first_from.Goals as goal

pub returns-clause-before : goal.returns-clause-before
returns-clause-before c =
    let p =
    IsPartitionPoint-from_clause (λ y. ltb y.0 c.args.count) c.args.notes.now c.partition_point.result c.partition_point.ensures.partitioned
    (IsPartitionedBy-ltb (λ x. x.0) c.args.notes.now c.args.count c.requires) (λ a r f k. search rules) in
    λ k d a b. ltb-true _ _ (p.0 k d a b)

pub returns-clause-from : goal.returns-clause-from
returns-clause-from c =
    let p =
    IsPartitionPoint-from_clause (λ y. ltb y.0 c.args.count) c.args.notes.now c.partition_point.result c.partition_point.ensures.partitioned
    (IsPartitionedBy-ltb (λ x. x.0) c.args.notes.now c.args.count c.requires) (λ a r f k. search rules) in
    λ k d a b. ltb-false _ _ (p.1 k d a b)
