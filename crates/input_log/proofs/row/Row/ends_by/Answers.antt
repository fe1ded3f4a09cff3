use Rattle.std.proofs.Common.{◌≤◌, ◌-◌, ℕ, List, All, length, get_or, sym, subst, arith}
use Rattle.std.proofs.lemmas.Bool.{leb-true, le-leb}
use Rattle.input_log.specs.declared.Input.{Input}
use Rattle.input_log.proofs.Rows.{all_by_last, all_zip, all_firsts}
use Rattle.input_log.proofs.row.Row.ends_by.Goals as goal

pub returns : goal.returns
returns c =
    let ks = c.columns.result.0.now in
    let vs = c.columns.result.1.now in
    let n = c.args.count in (
      (λ t.
          subst (λ (r : List (ℕ × Input)). All (λ x. x.0 ≤ n) r) c.columns.ensures.value
          (all_zip ks vs c.columns.ensures.paired (λ k. k ≤ n)
          (all_by_last ks n 0 c.columns.ensures.rising (omega arith) (leb-true (get_or ks (length ks - 1) 0) n t)))),
      (λ all.
          le-leb (get_or ks (length ks - 1) 0) n
          (all_firsts ks vs c.columns.ensures.paired (λ k. k ≤ n)
          (subst (λ (r : List (ℕ × Input)). All (λ x. x.0 ≤ n) r) (sym c.columns.ensures.value) all) (length ks - 1) 0 (omega arith))),
    )
