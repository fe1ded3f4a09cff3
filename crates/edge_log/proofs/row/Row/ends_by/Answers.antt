use Rattle.std.proofs.Common.{◌-◌, ◌≤◌, List, length, get_or, AllPairs, All, subst, sym, ap, ◌∙◌, arith}
use Rattle.std.proofs.lemmas.Bool.{leb-true, le-leb}
use Rattle.edge_log.specs.declared.Edge.{Edge}
use Rattle.edge_log.specs.Rows.{ComesBefore}
use Rattle.edge_log.proofs.Rows.{all_by_last}
use Rattle.edge_log.proofs.row.Row.ends_by.Goals as goal

pub returns : goal.returns
returns c =
    let xs = c.as_slice-edges.result.now in
    let last = c.index-edges-edges.result in
    let is = c.as_slice-edges.ensures.value ∙ ap (λ v. v.edges) c.self.view_is in
    let rising = subst (λ l. AllPairs ComesBefore l) (sym c.as_slice-edges.ensures.value) c.self.invariant.rising in (
      (λ t.
          subst (λ (l : List Edge). All (λ e. e.at ≤ c.args.count) l) is
          (all_by_last xs c.args.count last rising (omega arith) (leb-true (get_or xs (length xs - 1) last).at c.args.count t))),
      (λ all.
          le-leb (get_or xs (length xs - 1) last).at c.args.count
          (subst (λ (l : List Edge). All (λ e. e.at ≤ c.args.count) l) (sym is) all (length xs - 1) last (omega arith))),
    )
