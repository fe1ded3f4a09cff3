use Rattle.std.proofs.Common.{◌≡◌, ◌≤◌, ◌<◌, ℕ, List, All, get_or, le_refl, refl, subst, arith}
use Rattle.std.specs.List.{Any}
use Rattle.input_log.specs.declared.Input.{Input}
use Rattle.input_log.proofs.Rows.{first_at, all_zip, any_zip}
use Rattle.input_log.proofs.row.Row.next.Goals as goal

pub returns-then-place-counts-clause-found : goal.returns-then-place-counts-clause-found
returns-then-place-counts-clause-found c =
    let ks = c.columns.result.0.now in
    let i = c.first_from-place.result in (
      c.first_from-place.ensures.from i 0 (le_refl i) c.if-place-counts.true,
      subst (λ (r : List (ℕ × Input)). Any (λ x. x.0 ≡ get_or ks i 0) r) c.columns.ensures.value
          (any_zip ks c.columns.result.1.now c.columns.ensures.paired (get_or ks i 0) i 0 c.if-place-counts.true refl),
    )

pub returns-then-place-counts-clause-first : goal.returns-then-place-counts-clause-first
returns-then-place-counts-clause-first c =
    let ks = c.columns.result.0.now in
    let i = c.first_from-place.result in
    subst (λ (r : List (ℕ × Input)). All (λ x. c.args.count ≤ x.0 → get_or ks i 0 ≤ x.0) r) c.columns.ensures.value
    (all_zip ks c.columns.result.1.now c.columns.ensures.paired (λ k. c.args.count ≤ k → get_or ks i 0 ≤ k)
    (first_at ks c.args.count i c.columns.ensures.rising c.if-place-counts.true c.first_from-place.ensures.before 0))

pub returns-else-place-counts-clause-none : goal.returns-else-place-counts-clause-none
returns-else-place-counts-clause-none c =
    let ks = c.columns.result.0.now in
    subst (λ (r : List (ℕ × Input)). All (λ x. x.0 < c.args.count) r) c.columns.ensures.value
    (all_zip ks c.columns.result.1.now c.columns.ensures.paired (λ k. k < c.args.count)
    (λ k d below. c.first_from-place.ensures.before k d (omega arith) (omega arith)))
