use Rattle.std.proofs.Common.{◌≤◌, ℕ, List, subst, sym}
use Rattle.ft_types.specs.Counts.{count_at}
use Rattle.hart_lease.specs.Runs.{counts_of}
use Rattle.pair.proofs.Leading.{has_led, within_limits}
use Rattle.pair.proofs.primary_thread.lead.Goals as goal

pub run_seen-requires-clause-below : goal.run_seen-requires-clause-below
run_seen-requires-clause-below g c κs order hart =
    let before = c.args.post.primary.book in
    subst (λ (ls : List ℕ). counts_of before.machine hart ≤ count_at ls hart) (sym c.limits-limits.ensures.value)
    (within_limits before c.args.post.budget c.requires.limits c.requires.below hart)

pub returns-in_ok-close-in-Ok : goal.returns-in_ok-close-in-Ok
returns-in_ok-close-in-Ok g c =
    let said = c.in-Ok.ensures in
    has_led c.args.post.primary.book c.in-Ok.book c.limits-limits.result c.limits-limits.ensures.value said.limits said.continues said.offered said.counts
    said.done c.has_run.ensures.run
