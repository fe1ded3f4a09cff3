use Rattle.std.proofs.Common.{◌≡◌, ℕ, ltb, leb, rules, arith, ◌∙◌, ap, sym, subst, filter, take, drop, zip, length, length-drop}
use Rattle.std.specs.List.Sorted.{IsNonDecreasing}
use Rattle.std.proofs.lemmas.Bool.{ltb-true, ltb-false, lt-leb, le-leb}
use Rattle.std.proofs.lemmas.List.Sorted.{IsPartitionPoint-from_clause, IsPartitionedBy-ltb, IsNonDecreasingBy-drop}
use Rattle.input_log.specs.declared.Input.{Input}
use Rattle.log_pieces.proofs.cuts.Filters.{filter-filter}
use Rattle.log_pieces.proofs.cuts.Columns.{zip_front, zip_back}
use Rattle.log_pieces.proofs.merging.inputs_between.Goals as goal

pub returns-clause-value : goal.returns-clause-value
returns-clause-value c =
    let all = c.args.counts.now in
    let inputs = c.args.inputs.now in
    let rest = c.split_at.result.1.now in
    let rest_inputs = c.split_at-2.result.1.now in
    let p =
    IsPartitionPoint-from_clause (λ n. ltb n c.args.from) all c.partition_point-first.result c.partition_point-first.ensures.partitioned
    (IsPartitionedBy-ltb (λ n. n) all c.args.from c.requires.rising) (λ a r f k. search rules) in
    let rising : IsNonDecreasing rest =
    subst IsNonDecreasing (sym c.split_at.ensures.back) (IsNonDecreasingBy-drop (λ n. n) c.partition_point-first.result all c.requires.rising) in
    let q =
    IsPartitionPoint-from_clause (λ n. ltb n c.args.to) rest c.partition_point-end.result c.partition_point-end.ensures.partitioned
    (IsPartitionedBy-ltb (λ n. n) rest c.args.to rising) (λ a r f k. search rules) in
    let same : length rest_inputs ≡ length rest =
    omega (
      arith,
      ap length c.split_at.ensures.back,
      ap length c.split_at-2.ensures.back,
      length-drop c.partition_point-first.result all,
      length-drop c.partition_point-first.result inputs,
      c.requires.paired,
    ) in
    let kept : zip rest rest_inputs ≡ filter (λ (x : ℕ × Input). leb c.args.from x.0) (zip all inputs) =
    ap (λ l. zip l rest_inputs) c.split_at.ensures.back ∙
    (ap (λ l. zip (drop c.partition_point-first.result all) l) c.split_at-2.ensures.back ∙
    zip_back (λ n. leb c.args.from n) all inputs c.partition_point-first.result c.requires.paired c.partition_point-first.ensures.bound
    (λ k d a b. lt-leb _ _ (ltb-true _ _ (p.0 k d a b))) (λ k d a b. le-leb _ _ (ltb-false _ _ (p.1 k d a b)))) in
    ap (λ l. zip l c.split_at-4.result.0.now) c.split_at-3.ensures.front ∙
    (ap (λ l. zip (take c.partition_point-end.result rest) l) c.split_at-4.ensures.front ∙
    (zip_front (λ n. ltb n c.args.to) rest rest_inputs c.partition_point-end.result same c.partition_point-end.ensures.bound q.0 q.1 ∙
    (ap (filter (λ (x : ℕ × Input). ltb x.0 c.args.to)) kept ∙ filter-filter (λ (x : ℕ × Input). ltb x.0 c.args.to) (λ (x : ℕ × Input). leb c.args.from x.0)
    (zip all inputs))))
