-- What a lease asks for.
use Rattle.std.specs.Prelude.{ℕ}
use Rattle.ft_types.specs.declared.names.Want.{Want}
use Rattle.hart_lease.specs.declared.asked.Asked.{Asked}
use Rattle.hart_lease.specs.Leases.{LeaseView}

-- the lease asks for a right on the page, at its present count
abbrev pub asked_by : LeaseView → ℕ → Want → Asked
asked_by l page want = record { hart = l.hart; count = l.present.count; page = page; want = want }
