use Rattle.std.proofs.Common.{◌≤◌, ℕ, sym, ◌∙◌, subst}
use Rattle.ft_types.specs.Counts.{count_at}
use Rattle.hart_threads.proofs.Picking.{goes_on_itself, goes_on}
use Rattle.hart_threads.proofs.runs.pick.Goals as goal

pub returns-then-not-continues : goal.returns-then-not-continues
returns-then-not-continues c = record { goes_on = goes_on_itself c.args.copy; below = c.requires.below }

pub returns-then-not-within : goal.returns-then-not-within
returns-then-not-within c = record { goes_on = goes_on_itself c.args.copy; below = c.requires.below }

pub within-requires : goal.within-requires
within-requires c =
    c.counts.ensures.harts
    ∙ (goes_on c.args.copy c.args.held (c.continues.ensures.0 c.if-not-continues.false) c.has_run-2.ensures c.has_run.ensures).harts
    ∙ sym c.requires.harts

pub returns : goal.returns
returns c =
    record {
      goes_on = c.continues.ensures.0 c.if-not-continues.false;
      below = λ hart.
          subst (λ (n : ℕ). n ≤ count_at c.args.budget.now hart) (c.counts.ensures.all hart) (c.within.ensures.0 c.if-not-within.false hart);
    }
