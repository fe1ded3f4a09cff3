use Rattle.std.proofs.Common.{sym, subst, ◌∙◌}
use Rattle.hart_lease.specs.Leases.{LeaseView, IsLent, whole}
use Rattle.page_book.proofs.lease.Lease.run.Goals as goal

pub returns-clause-lent : goal.returns-clause-lent
returns-clause-lent c machine taken earlier lent = c.run.ensures.lent machine taken earlier (subst (λ (v : LeaseView). IsLent machine taken (whole earlier v))
    (sym (c.deref_mut.ensures.value ∙ c.self.view_is)) lent)
