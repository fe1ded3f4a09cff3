use Rattle.std.proofs.Common.{◌≡◌, ◌==◌, ◌-◌, AllPairs, length, take, drop, subst, sym, ap, ◌∙◌}
use Rattle.std.proofs.lemmas.List.{take_rest}
use Rattle.std.specs.List.{filter}
use Rattle.edge_log.specs.Rows.{ComesBefore}
use Rattle.edge_log.proofs.Rows.{edges_at, others_rise}
use Rattle.edge_log.proofs.row.Row.at.Goals as goal

pub returns-clause-value : goal.returns-clause-value
returns-clause-value c =
    let xs = c.as_slice-edges.result.now in
    let i = c.first_from.result in
    let rest : take (length xs - i) (drop i xs) ≡ drop i xs = take_rest xs i in
    rw rest
    (edges_at xs c.args.count i c.first_after.result c.first_from.ensures.within (rw rest at c.first_after.ensures.within) c.first_from.ensures.before
    c.first_from.ensures.from (rw rest at c.first_after.ensures.upto) (rw rest at c.first_after.ensures.after) ∙
    ap (filter (λ e. e.at == c.args.count)) (c.as_slice-edges.ensures.value ∙ ap (λ v. v.edges) c.self.view_is))

pub returns-clause-rising : goal.returns-clause-rising
returns-clause-rising c =
    let xs = c.as_slice-edges.result.now in
    let i = c.first_from.result in
    let rest : take (length xs - i) (drop i xs) ≡ drop i xs = take_rest xs i in
    rw rest
    (others_rise xs c.args.count i c.first_after.result (subst (λ l. AllPairs ComesBefore l) (sym c.as_slice-edges.ensures.value) c.self.invariant.rising)
    c.first_from.ensures.within (rw rest at c.first_after.ensures.within) c.first_from.ensures.from (rw rest at c.first_after.ensures.upto))
