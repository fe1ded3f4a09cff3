use Rattle.std.proofs.Common.{◌≡◌, ◌≤◌, inl, inr, List, slice_index, slice_index_or, ap, sym, subst, ◌∙◌, arith}
use Rattle.std.proofs.lemmas.Bool.{cases_lt}
use Rattle.std.proofs.lemmas.List.{get_or_default}
use Rattle.log_audit.specs.declared.marks.Uses.{Uses}
use Rattle.log_audit.specs.machinery.Marks.{unused, uses_at, used_by}
use Rattle.log_audit.proofs.marks.Marks.against.Goals as goal

-- no hart behind the rows has a step on the page
pub returns-clause-none : goal.returns-clause-none
returns-clause-none c other there apart =
    let uses : c.index-uses.result.now ≡ uses_at c.args.self.now c.args.page =
    c.index-uses.ensures
    ∙ (ap (λ (us : List Uses). slice_index_or us c.index.result c.index-uses.result.now) c.self.view_is
    ∙ (ap (λ i. slice_index_or c.args.self.now i c.index-uses.result.now) c.index.ensures.value
    ∙ get_or_default c.args.self.now c.args.page c.index-uses.result.now unused c.requires)) in
    elim (cases_lt other c.reach-number-end.result) [
      | inl lt ↦ c.loop-number.invariant other (omega (arith, lt)) apart
      | inr ge ↦
          let none : used_by (uses_at c.args.self.now c.args.page) c.args.want other ≡ 0 =
          ap (λ (u : Uses). used_by u c.args.want other) (sym uses) ∙ c.reach-number-end.ensures.rest other ge in
          subst (λ n. n ≤ slice_index c.args.before.now other) (sym none) (omega arith)
    ]
