-- A lease that may take other than it might.
use Rattle.std.proofs.Common.{ℕ, List, Option}
use Rattle.guest_image.specs.Machine.{MachineState}
use Rattle.hart_lease.specs.declared.taken.Taken.{Taken}
use Rattle.hart_lease.specs.Leases.{LeaseView, IsLent, whole}
use Rattle.hart_lease.specs.Runs.{IsLease, IsBareLease}

kept_for : (l : LeaseView) (most : ℕ) → IsLease l → IsLease (record l { most = most })
kept_for l most p =
    record {
      stop = p.stop;
      few = p.few;
      as_many = p.as_many;
      counted = p.counted;
      rights = p.rights;
      number = p.number;
      harts = p.harts;
      count = p.count;
      rings = p.rings;
      runs = λ m on. p.runs m (record { state = on.state; as_many = on.as_many; contents = on.contents });
      within = p.within;
      played = record { lease = p.played.lease; hart = p.played.hart; pages = p.played.pages; based = p.played.based };
    }

pub bare_for : (l : LeaseView) (most : ℕ) → IsBareLease l → IsBareLease (record l { most = most })
bare_for l most p = record { bare = kept_for l most p.bare; with_any = λ earlier. kept_for (whole earlier l) most (p.with_any earlier) }

-- whoever lent it still did
pub lent_for : (l : LeaseView) (most : ℕ) (m : MachineState) (taken : List (Option Taken)) (earlier : List (ℕ × ℕ)) → IsLent m taken (whole earlier l) →
    IsLent m taken (whole earlier (record l { most = most }))
lent_for l most m taken earlier p = record { state = p.state; as_many = p.as_many; counts = p.counts; pages = p.pages }
