use Rattle.std.proofs.Common.{ℕ, List, length, ap, subst, ◌∙◌, le_of_eq}
use Rattle.ft_types.specs.Counts.{count_at}
use Rattle.warm_backup.specs.machinery.Growing.{AsksForNothingOf}
use Rattle.warm_backup.proofs.Gone.{asks_for_nothing}
use Rattle.warm_backup.proofs.work.make_ready.Goals as goal
use Rattle.warm_backup.proofs.work.make_ready.Goals.{then-not-is_nothing, else-not-is_nothing}

pub returns-clause-fresh : goal.returns-clause-fresh
returns-clause-fresh c =
    let leg = c.args.leg.now in
    let rest = c.args.rest.now in
    let behind = c.requires.behind in
    elim c.if-not-is_nothing.branch [
      | then-not-is_nothing w ↦
          let is = w.nothing_from.ensures in
          rw w.rest-is
          (record {
            harts = ap length is.start ∙ c.requires.harts;
            start = λ hart. le_of_eq (ap (λ (row : List ℕ). count_at row hart) is.start);
            nothing = record { rows = is.rows; edges = is.edges; inputs = is.inputs };
          })
      | else-not-is_nothing w ↦
          let all = asks_for_nothing leg rest behind
          (subst (λ (n : ℕ). AsksForNothingOf rest n) c.harts.ensures.value (c.is_nothing.ensures w.if-not-is_nothing.false)) in
          rw w.rest-is
          (record {
            harts = behind.harts;
            start = behind.start;
            nothing = record { rows = all.rows; edges = all.edges; inputs = all.inputs };
          })
    ]
