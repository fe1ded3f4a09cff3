use Rattle.book_modes.proofs.obeying.Inputs.{settled_hears, hears_on}
use Rattle.hart_lease.specs.Leases.{whole}
use Rattle.book_modes.proofs.mode.ReplayingMode.settle.Goals as goal

pub returns-clause-heard : goal.returns-clause-heard
returns-clause-heard c earlier = record { hears = λ s. hears_on _ s.machine s.leases (whole earlier c.args._lease.now) s.is_lease s.is_lent s.kept }

pub returns-clause-kept : goal.returns-clause-kept
returns-clause-kept c earlier = λ s. settled_hears _ s.machine s.leases (whole earlier c.args._lease.now) s.is_lent s.kept
