use Rattle.std.proofs.Common.{◌≤◌, List, ℕ, sym, subst, ◌∙◌}
use Rattle.ft_types.specs.Counts.{count_at}
use Rattle.hart_lease.specs.Runs.{counts_of}
use Rattle.lease_rounds.proofs.OneStep.{fits, not_held, took_step, took_within, took_rights, took_none}
use Rattle.lease_rounds.proofs.stepping.go_once.Goals as goal

pub limit_at-requires-2 : goal.limit_at-requires-2
limit_at-requires-2 c =
    let fit =
    fits c.args.hart c.args.book.now c.args.once c.go-went.new.book c.requires.idle c.requires.one c.requires.below c.requires.within c.limit_at.new.self
    c.limit_at.ensures c.go-went.result c.go-went.ensures.goes c.go-went.ensures.not_gone c.go-went.ensures.idle in
    record {
      harts = c.limits-limits.ensures.harts ∙ sym fit.0;
      idle = c.go-went.ensures.idle;
      settled = λ other.
          subst (λ (l : List ℕ). counts_of c.go-went.new.book.machine other ≤ count_at l other) (sym c.limits-limits.ensures.value) (fit.1 other);
    }

pub unreachable-requires : goal.unreachable-requires
unreachable-requires c =
    not_held c.args.hart c.args.book.now c.args.once c.go-went.new.book c.requires.idle c.requires.one c.requires.below c.requires.within c.requires.runs
    c.requires.hart c.limit_at.new.self c.limit_at.ensures (rw c.in-Ok-false.field-0-test at c.in-Ok-false.ensures.goes).1

pub returns-in-Ok-true-clause-stepped : goal.returns-in-Ok-true-clause-stepped
returns-in-Ok-true-clause-stepped c =
    took_step c.args.hart c.args.book.now c.args.once c.go-went.new.book c.requires.idle c.requires.one c.requires.below c.requires.within
    c.limit_at.new.self c.limit_at-2.new.self c.limits-limits.result c.limit_at.ensures c.limit_at-2.ensures c.limits-limits.ensures.value
    (rw c.in-Ok-true.field-0-test at c.in-Ok-true.ensures.goes)

pub returns-in-Ok-true-clause-within : goal.returns-in-Ok-true-clause-within
returns-in-Ok-true-clause-within c =
    took_within c.args.hart c.args.book.now c.args.once c.go-went.new.book c.requires.idle c.requires.one c.requires.below c.requires.within
    c.limit_at.new.self c.limit_at-2.new.self c.limits-limits.result c.limit_at.ensures c.limit_at-2.ensures c.limits-limits.ensures.value
    (rw c.in-Ok-true.field-0-test at c.in-Ok-true.ensures.goes)

pub returns-in-Ok-true-clause-rights : goal.returns-in-Ok-true-clause-rights
returns-in-Ok-true-clause-rights c =
    took_rights c.args.hart c.args.book.now c.args.once c.go-went.new.book c.requires.idle c.requires.one c.requires.below c.requires.within
    c.limit_at.new.self c.limit_at-2.new.self c.limits-limits.result c.limit_at.ensures c.limit_at-2.ensures c.limits-limits.ensures.value
    (rw c.in-Ok-true.field-0-test at c.in-Ok-true.ensures.goes)

pub returns-in-Err-clause-unmoved : goal.returns-in-Err-clause-unmoved
returns-in-Err-clause-unmoved c =
    took_none c.args.hart c.args.book.now c.args.once c.go-went.new.book c.requires.idle c.requires.one c.requires.below c.requires.within
    c.limit_at.new.self c.limit_at-2.new.self c.limits-limits.result c.limit_at.ensures c.limit_at-2.ensures c.limits-limits.ensures.value
    c.go-went.ensures.idle c.in-Err.ensures.not_gone
