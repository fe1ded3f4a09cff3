use Rattle.std.proofs.Common.{◌≡◌, ℕ, ltb, leb, rules, ◌∙◌, ap, sym, subst, filter}
use Rattle.std.specs.List.Sorted.{IsNonDecreasingBy}
use Rattle.std.proofs.lemmas.Bool.{ltb-true, ltb-false, lt-leb, le-leb}
use Rattle.std.proofs.lemmas.List.Sorted.{IsPartitionPoint-from_clause, IsPartitionedBy-ltb, IsNonDecreasingBy-drop}
use Rattle.log_pieces.proofs.cuts.Filters.{filter_front, filter_back, filter-filter}
use Rattle.log_pieces.proofs.merging.notes_between.Goals as goal

pub returns : goal.returns
returns c =
    let all = c.args.notes.now in
    let rest = c.split_at.result.1.now in
    let p =
    IsPartitionPoint-from_clause (λ (e : ℕ × ℕ). ltb e.0 c.args.from) all c.partition_point.result c.partition_point.ensures.partitioned
    (IsPartitionedBy-ltb (λ (e : ℕ × ℕ). e.0) all c.args.from c.requires) (λ a r f k. search rules) in
    let rising : IsNonDecreasingBy (λ (e : ℕ × ℕ). e.0) rest =
    subst (IsNonDecreasingBy (λ (e : ℕ × ℕ). e.0)) (sym c.split_at.ensures.back) (IsNonDecreasingBy-drop (λ (e : ℕ × ℕ). e.0) c.partition_point.result all
    c.requires) in
    let q =
    IsPartitionPoint-from_clause (λ (e : ℕ × ℕ). ltb e.0 c.args.to) rest c.partition_point-2.result c.partition_point-2.ensures.partitioned
    (IsPartitionedBy-ltb (λ (e : ℕ × ℕ). e.0) rest c.args.to rising) (λ a r f k. search rules) in
    let kept : rest ≡ filter (λ (e : ℕ × ℕ). leb c.args.from e.0) all =
    c.split_at.ensures.back ∙
    filter_back (λ (e : ℕ × ℕ). leb c.args.from e.0) all c.partition_point.result
    (λ k d a b. lt-leb _ _ (ltb-true _ _ (p.0 k d a b))) (λ k d a b. le-leb _ _ (ltb-false _ _ (p.1 k d a b))) in
    c.split_at-2.ensures.front ∙
    (filter_front (λ (e : ℕ × ℕ). ltb e.0 c.args.to) rest c.partition_point-2.result q.0 q.1 ∙
    (ap (filter (λ (e : ℕ × ℕ). ltb e.0 c.args.to)) kept ∙ filter-filter (λ (e : ℕ × ℕ). ltb e.0 c.args.to) (λ (e : ℕ × ℕ). leb c.args.from e.0) all))
