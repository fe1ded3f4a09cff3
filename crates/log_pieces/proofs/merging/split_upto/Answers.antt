use Rattle.std.proofs.Common.{◌≤◌, ◌<◌, leb, rules, sym, subst, take, drop, List}
use Rattle.std.specs.List.{AllByRecursion}
use Rattle.std.proofs.lemmas.Bool.{leb-true, leb-false}
use Rattle.std.proofs.lemmas.List.Elements.{recursion_from_All}
use Rattle.std.proofs.lemmas.List.Sorted.{IsPartitionPoint-from_clause, IsPartitionedBy-leb}
use Rattle.fragment_codec.specs.declared.types.Record.{Record}
use Rattle.fragment_codec.specs.Rules.{count_of}
use Rattle.log_pieces.proofs.cuts.Filters.{all_front, all_back}
use Rattle.log_pieces.proofs.cuts.Records.{rising}
use Rattle.log_pieces.proofs.merging.split_upto.Goals as goal

pub returns-clause-upto : goal.returns-clause-upto
returns-clause-upto c =
    let all = c.args.records.now in
    let i = c.partition_point.result in
    let p =
    IsPartitionPoint-from_clause (λ r. leb (count_of r) c.args.count) all i c.partition_point.ensures.partitioned
    (IsPartitionedBy-leb count_of all c.args.count (rising all c.requires)) (λ a r f k. search rules) in
    subst (λ (l : List Record). AllByRecursion (λ r. count_of r ≤ c.args.count) l) (sym c.split_at.ensures.front)
    (recursion_from_All (λ r. count_of r ≤ c.args.count) (take i all)
    (all_front (λ r. count_of r ≤ c.args.count) all i (λ k d a b. leb-true _ _ (p.0 k d a b))))

pub returns-clause-behind : goal.returns-clause-behind
returns-clause-behind c =
    let all = c.args.records.now in
    let i = c.partition_point.result in
    let p =
    IsPartitionPoint-from_clause (λ r. leb (count_of r) c.args.count) all i c.partition_point.ensures.partitioned
    (IsPartitionedBy-leb count_of all c.args.count (rising all c.requires)) (λ a r f k. search rules) in
    subst (λ (l : List Record). AllByRecursion (λ r. c.args.count < count_of r) l) (sym c.split_at.ensures.back)
    (recursion_from_All (λ r. c.args.count < count_of r) (drop i all)
    (all_back (λ r. c.args.count < count_of r) all i (λ k d a b. leb-false _ _ (p.1 k d a b))))
