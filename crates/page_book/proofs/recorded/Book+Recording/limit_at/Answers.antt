use Rattle.std.proofs.Common.{[], ◌≡◌, ◌≤◌, ◌∙◌, ℕ, sym, length, subst}
use Rattle.ft_types.specs.Counts.{count_at}
use Rattle.hart_lease.specs.Runs.{counts_of}
use Rattle.book_modes.specs.Recordings.{RecordingView, heard_by}
use Rattle.book_modes.proofs.ledger.Honesty.{raised_kept}
use Rattle.page_book.specs.Books.{BookView}
use Rattle.page_book.proofs.Lowering.{limits_set}
use Rattle.page_book.proofs.recorded.Book+Recording.limit_at.Goals as goal

pub limit_at-requires : goal.limit_at-requires
limit_at-requires c = let p = c.self.invariant in rw (← c.self.view_is) at c.requires.harts ∙ sym (p.keeps.limits ∙ sym p.harts)

pub invariant_of-self : goal.invariant_of-self
invariant_of-self c =
    let i = c.self.inside in
    let p = c.self.invariant in
    let limits = c.args.limits in
    let same : length limits ≡ length i.mode.limits = rw (← c.self.view_is) at c.requires.harts ∙ sym (p.keeps.limits ∙ sym p.harts) in
    rw c.limit_at.ensures
    (limits_set i.start i.machine i.journal.items i.leases.value i.mode.limits limits [] (heard_by i.mode) _ _ p (rw (← c.self.view_is) at c.requires.idle)
    (subst (λ (b : BookView RecordingView). (hart : ℕ) → counts_of b.machine hart ≤ count_at limits hart) (sym c.self.view_is) c.requires.settled)
    (raised_kept i.mode limits i.start i.machine i.journal.items i.leases.value same p.keeps))
