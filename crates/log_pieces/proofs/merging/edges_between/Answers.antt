use Rattle.std.proofs.Common.{◌≡◌, ltb, leb, rules, ◌∙◌, ap, sym, subst, filter}
use Rattle.std.specs.List.Sorted.{IsNonDecreasingBy}
use Rattle.std.proofs.lemmas.Bool.{ltb-true, ltb-false, lt-leb, le-leb}
use Rattle.std.proofs.lemmas.List.Sorted.{IsPartitionPoint-from_clause, IsPartitionedBy-ltb, IsNonDecreasingBy-drop}
use Rattle.edge_log.specs.declared.Edge.{Edge}
use Rattle.log_pieces.proofs.cuts.Filters.{filter_front, filter_back, filter-filter}
use Rattle.log_pieces.proofs.merging.edges_between.Goals as goal

pub returns : goal.returns
returns c =
    let all = c.args.edges.now in
    let rest = c.split_at.result.1.now in
    let p =
    IsPartitionPoint-from_clause (λ (e : Edge). ltb e.at c.args.from) all c.partition_point.result c.partition_point.ensures.partitioned
    (IsPartitionedBy-ltb (λ (e : Edge). e.at) all c.args.from c.requires) (λ a r f k. search rules) in
    let rising : IsNonDecreasingBy (λ (e : Edge). e.at) rest =
    subst (IsNonDecreasingBy (λ (e : Edge). e.at)) (sym c.split_at.ensures.back) (IsNonDecreasingBy-drop (λ (e : Edge). e.at) c.partition_point.result all
    c.requires) in
    let q =
    IsPartitionPoint-from_clause (λ (e : Edge). ltb e.at c.args.to) rest c.partition_point-2.result c.partition_point-2.ensures.partitioned
    (IsPartitionedBy-ltb (λ (e : Edge). e.at) rest c.args.to rising) (λ a r f k. search rules) in
    let kept : rest ≡ filter (λ (e : Edge). leb c.args.from e.at) all =
    c.split_at.ensures.back ∙
    filter_back (λ (e : Edge). leb c.args.from e.at) all c.partition_point.result
    (λ k d a b. lt-leb _ _ (ltb-true _ _ (p.0 k d a b))) (λ k d a b. le-leb _ _ (ltb-false _ _ (p.1 k d a b))) in
    c.split_at-2.ensures.front ∙
    (filter_front (λ (e : Edge). ltb e.at c.args.to) rest c.partition_point-2.result q.0 q.1 ∙
    (ap (filter (λ (e : Edge). ltb e.at c.args.to)) kept ∙ filter-filter (λ (e : Edge). ltb e.at c.args.to) (λ (e : Edge). leb c.args.from e.at) all))
