use Rattle.std.proofs.Common.{arith, subst, sym, ap, ◌∙◌, ◌≡◌, ◌≢◌, ℕ}
use Rattle.crew_pages.specs.Rights.{right_of, after_count}
use Rattle.crew_pages.proofs.Owed.{goes_on_same, goes_on_one, not_other, same_hart, all_owed, owed_within, count_is, pushed}
use Rattle.crew_pages.proofs.right.PageRight.edges_owed.Goals as goal
use Rattle.crew_pages.proofs.right.PageRight.edges_owed.Goals.{in-Some+then-ne, in-Some+else-ne, in_default-before}

-- the count that the next hart is waited for
before : (c : goal.Joined-before) → after_count (right_of c.args.self.now) c.args.want c.loop-number.number ≡ c.count_before-before.result
before c =
    count_is c.args.self.now c.in-Shared.since c.in-Shared.readers c.in-Shared.left c.args.want c.loop-number.number c.new-other.result
    c.count_before-before.result c.in-Shared.is c.new-other.ensures c.count_before-before.ensures

pub loop-number-preserved : goal.loop-number-preserved
loop-number-preserved c =
    elim c.match-before.branch [
      | in-Some+then-ne w ↦
          goes_on_one (right_of c.args.self.now) c.args.hart c.args.want c.args.at c.loop-number.number w.in-Some.after c.loop-number.edges c.match-before.edges
          c.loop-number.invariant c.requires
          (subst (λ (n : ℕ). n ≢ c.args.hart) c.new-other.ensures (not_other c.new-other.result c.args.hart (sym w.ne.ensures ∙ w.if-ne.true)))
          (omega (arith, c.reach_of-number-end.ensures.limit)) (before c ∙ w.in-Some.is)
          (ap (λ v. v.items) w.edges-is ∙
          pushed c.loop-number.edges.items w.push_reserved.new.self.items c.args.hart c.args.at c.new-other.result c.loop-number.number w.in-Some.after
          w.push_reserved.ensures.items c.new-other.ensures)
          (ap (λ v. v.capacity) w.edges-is ∙ w.push_reserved.ensures.capacity)
      | in-Some+else-ne w ↦
          goes_on_same (right_of c.args.self.now) c.args.hart c.args.want c.args.at c.loop-number.number c.loop-number.edges c.match-before.edges
          c.loop-number.invariant w.edges-is
          (λ x owed to. owed.other (to ∙ (sym c.new-other.ensures ∙ same_hart c.new-other.result c.args.hart (sym w.ne.ensures ∙ w.if-ne.false))))
      | in_default-before w ↦
          goes_on_same (right_of c.args.self.now) c.args.hart c.args.want c.args.at c.loop-number.number c.loop-number.edges c.match-before.edges
          c.loop-number.invariant w.edges-is
          (λ x owed to.
          w.in_default-before.not-Some x.after
          (sym (before c) ∙ (ap (λ (k : ℕ). after_count (right_of c.args.self.now) c.args.want k) (sym to) ∙ owed.after)))
    ]

pub returns-clause-exact : goal.returns-clause-exact
returns-clause-exact c =
    all_owed (right_of c.args.self.now) c.args.hart c.args.want c.args.at c.loop-number.number c.loop-number.edges c.loop-number.invariant
    (owed_within c.args.self.now c.in-Shared.since c.in-Shared.readers c.in-Shared.left c.args.hart c.args.want c.args.at c.loop-number.number
    c.reach_of-number-end.result c.in-Shared.is c.reach_of-number-end.ensures.beyond (omega (arith, c.loop-number-test.false)))
