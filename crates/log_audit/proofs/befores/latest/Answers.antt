use Rattle.std.proofs.Common.{◌≡◌, suc, ◌-◌, ◌≤◌, ap, sym, arith, leb, rules, length, ◌∙◌}
use Rattle.std.proofs.lemmas.Bool.{leb-true, leb-false}
use Rattle.std.proofs.lemmas.List.Sorted.{IsPartitionPoint-from_clause, IsPartitionedBy-leb}
use Rattle.std.proofs.lemmas.List.{get_or_default}
use Rattle.log_audit.specs.declared.befores.Before.{Before}
use Rattle.log_audit.specs.machinery.Befores.{steps_in_front, no_steps}
use Rattle.log_audit.proofs.Rising.{rising_by}
use Rattle.log_audit.proofs.befores.latest.Goals as goal

pub returns-then-place-eq0 : goal.returns-then-place-eq0
returns-then-place-eq0 c =
    let p =
    IsPartitionPoint-from_clause (λ y. leb y.since c.args.count) c.args.row.now c.partition_point-place.result c.partition_point-place.ensures.partitioned
    (IsPartitionedBy-leb (λ b. b.since) c.args.row.now c.args.count (rising_by c.args.row.now c.requires)) (λ a r f k. search rules) in
    record {
      place = c.partition_point-place.result;
      within = c.partition_point-place.ensures.bound;
      upto = λ k d a b. leb-true _ _ (p.0 k d a b);
      after = λ k d a b. leb-false _ _ (p.1 k d a b);
      steps_are = c.no_steps.ensures ∙ sym (ap (steps_in_front c.args.row.now) c.if-place-eq0.true);
    }

pub returns-else-place-eq0 : goal.returns-else-place-eq0
returns-else-place-eq0 c =
    let p =
    IsPartitionPoint-from_clause (λ y. leb y.since c.args.count) c.args.row.now c.partition_point-place.result c.partition_point-place.ensures.partitioned
    (IsPartitionedBy-leb (λ b. b.since) c.args.row.now c.args.count (rising_by c.args.row.now c.requires)) (λ a r f k. search rules) in
    record {
      place = c.partition_point-place.result;
      within = c.partition_point-place.ensures.bound;
      upto = λ k d a b. leb-true _ _ (p.0 k d a b);
      after = λ k d a b. leb-false _ _ (p.1 k d a b);
      steps_are =
          let some = c.if-place-eq0.false in
          let bound : c.partition_point-place.result ≤ length c.args.row.now = c.partition_point-place.ensures.bound in
          let same : suc (c.partition_point-place.result - 1) ≡ c.partition_point-place.result = omega (arith, some) in
          c.row.ensures
          ∙ ap (λ (b : Before). b.steps)
          (get_or_default c.args.row.now (c.partition_point-place.result - 1) c.index-row-place.result (record { since = 0; steps = no_steps })
          (omega (arith, some, bound)))
          ∙ ap (steps_in_front c.args.row.now) same;
    }
