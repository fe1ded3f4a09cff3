use Rattle.std.proofs.Common.{◌≡◌, Any, subst, sym, arith, ◌∙◌, inl, inr, ap, get_or}
use Rattle.std.proofs.lemmas.Bool.{cases_lt}
use Rattle.std.proofs.lemmas.List.{get_or_default}
use Rattle.edge_log.specs.declared.Edge.{Edge}
use Rattle.edge_log.specs.Rows.{AsksAsMuch}
use Rattle.edge_log.proofs.row.says_all.Goals as goal

pub returns-then-not-says_as_much : goal.returns-then-not-says_as_much
returns-then-not-says_as_much c = (
  λ e. absurd (cc e),
  λ all.
      let said = c.says_as_much.ensures.1
      (subst (λ (e : Edge). Any (λ by. AsksAsMuch by e) c.args.edges.now) (sym c.edge-item.is)
      (all c.loop-edge.edge-index c.edge-item.result c.loop-edge-test.true)) in
      absurd (let no = c.if-not-says_as_much.true in cc),
)

pub loop-edge-preserved : goal.loop-edge-preserved
loop-edge-preserved c k d from below = elim (cases_lt k c.loop-edge.edge-index) [
  | inl less ↦ c.loop-edge.invariant k d from less
  | inr more ↦
      let at : c.loop-edge.edge-index ≡ k = omega arith in
      let is : c.edge-item.result ≡ get_or c.args.said.now k d =
      c.edge-item.is ∙ get_or_default c.args.said.now c.loop-edge.edge-index c.edge-item.result d c.loop-edge-test.true ∙
      ap (λ n. get_or c.args.said.now n d) at in
      subst (λ (e : Edge). Any (λ by. AsksAsMuch by e) c.args.edges.now) is (c.says_as_much.ensures.0 c.if-not-says_as_much.false)
]
