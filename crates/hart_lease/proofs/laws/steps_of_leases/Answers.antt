use Rattle.hart_lease.proofs.steps.LackedRights.{step_counts, step_keeps_rights, lacks_on_a_page}
use Rattle.hart_lease.proofs.laws.steps_of_leases.Goals as goal

pub returns-clause-counts : goal.returns-clause-counts
returns-clause-counts c = step_counts

pub returns-clause-rights : goal.returns-clause-rights
returns-clause-rights c = step_keeps_rights

pub returns-clause-lacks : goal.returns-clause-lacks
returns-clause-lacks c = lacks_on_a_page
