use Rattle.std.proofs.Common.{◌≡◌, ◌≤◌, ◌∙◌, ◌⊎◌, ℕ, List, subst, sym, true}
use Rattle.ft_types.specs.Counts.{count_at}
use Rattle.pair.proofs.Limits.{limits_stay}
use Rattle.pair.proofs.threads.OnThreadsRuns.run_book.Goals as goal

pub returns-in-Ok-clause-limits : goal.returns-in-Ok-clause-limits
returns-in-Ok-clause-limits g c =
    limits_stay c.args.book.mode.limits c.limits-limits.result c.in-Ok.book.mode.limits c.limits-limits.ensures.value c.in-Ok.ensures.limits

pub returns-in-Ok-clause-done : goal.returns-in-Ok-clause-done
returns-in-Ok-clause-done g c hart h there =
    let stay =
    limits_stay c.args.book.mode.limits c.limits-limits.result c.in-Ok.book.mode.limits c.limits-limits.ensures.value c.in-Ok.ensures.limits in
    subst (λ (xs : List ℕ). (h.halted ≡ true) ⊎ (count_at xs hart ≤ h.count)) (c.limits-limits.ensures.value ∙ sym stay) (c.in-Ok.ensures.done hart h there)
