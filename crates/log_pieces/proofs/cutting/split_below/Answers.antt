use Rattle.std.proofs.Common.{ltb, leb, rules, ◌∙◌}
use Rattle.std.proofs.lemmas.Bool.{ltb-true, ltb-false, lt-leb, le-leb}
use Rattle.std.proofs.lemmas.List.Sorted.{IsPartitionPoint-from_clause, IsPartitionedBy-ltb}
use Rattle.fragment_codec.specs.Rules.{count_of}
use Rattle.log_pieces.proofs.cuts.Filters.{filter_front, filter_back}
use Rattle.log_pieces.proofs.cuts.Records.{rising}
use Rattle.log_pieces.proofs.cutting.split_below.Goals as goal

pub returns-clause-below : goal.returns-clause-below
returns-clause-below c =
    let p =
    IsPartitionPoint-from_clause (λ r. ltb (count_of r) c.args.end) c.args.records.now c.partition_point.result c.partition_point.ensures.partitioned
    (IsPartitionedBy-ltb count_of c.args.records.now c.args.end (rising c.args.records.now c.requires)) (λ a r f k. search rules) in
    c.split_at.ensures.front ∙ filter_front (λ r. ltb (count_of r) c.args.end) c.args.records.now c.partition_point.result p.0 p.1

pub returns-clause-behind : goal.returns-clause-behind
returns-clause-behind c =
    let p =
    IsPartitionPoint-from_clause (λ r. ltb (count_of r) c.args.end) c.args.records.now c.partition_point.result c.partition_point.ensures.partitioned
    (IsPartitionedBy-ltb count_of c.args.records.now c.args.end (rising c.args.records.now c.requires)) (λ a r f k. search rules) in
    c.split_at.ensures.back ∙
    filter_back (λ r. leb c.args.end (count_of r)) c.args.records.now c.partition_point.result
    (λ k d a b. lt-leb _ _ (ltb-true _ _ (p.0 k d a b))) (λ k d a b. le-leb _ _ (ltb-false _ _ (p.1 k d a b)))
