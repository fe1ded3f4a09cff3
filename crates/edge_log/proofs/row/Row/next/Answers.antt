use Rattle.std.proofs.Common.{AllPairs, subst, sym, ◌∙◌, ap}
use Rattle.edge_log.specs.Rows.{ComesBefore}
use Rattle.edge_log.proofs.Rows.{first_at}
use Rattle.edge_log.proofs.row.Row.next.Goals as goal

pub returns-then-place-edges-clause-first : goal.returns-then-place-edges-clause-first
returns-then-place-edges-clause-first c =
    let is = c.as_slice-edges.ensures.value ∙ ap (λ v. v.edges) c.self.view_is in
    rw (← is)
    (first_at c.as_slice-edges.result.now c.args.count c.first_from-place.result
    (subst (λ l. AllPairs ComesBefore l) (sym c.as_slice-edges.ensures.value) c.self.invariant.rising) c.if-place-edges.true
    c.first_from-place.ensures.before c.index-edges-place.result)
