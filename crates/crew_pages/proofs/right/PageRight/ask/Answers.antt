use Rattle.std.proofs.Common.{subst, sym, ◌∙◌, ◌↔◌, ℕ, true≢false, Contains}
use Rattle.edge_log.specs.declared.Edge.{Edge}
use Rattle.edge_log.specs.EdgeLog.{edge_as}
use Rattle.crew_pages.specs.Rights.{right_of, IsOwed}
use Rattle.crew_pages.proofs.Owed.{one_stands}
use Rattle.crew_pages.proofs.right.PageRight.ask.Goals as goal

pub returns-then-not-is_empty-clause-not_free : goal.returns-then-not-is_empty-clause-not_free
returns-then-not-is_empty-clause-not_free c =
    one_stands (right_of c.args.self.now) c.args.hart c.args.want c.against-against.result c.against-against.ensures
    (λ none. true≢false (sym (c.is_empty.ensures.none.1 none) ∙ c.if-not-is_empty.true))

pub returns-clause-edges : goal.returns-clause-edges
returns-clause-edges c =
    subst (λ (n : ℕ). (e : Edge) → Contains c.edges_owed-edges.result.items e ↔ IsOwed (right_of c.args.self.now) c.args.hart c.args.want n (edge_as e))
    c.get-at.ensures.value c.edges_owed-edges.ensures.exact
