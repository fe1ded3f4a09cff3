-- A lease in the words of the theory of recording ledgers.
use Rattle.std.specs.Prelude.{◌≡◌, ℕ, List, [], length, is_some, true, Option, Some, option_map}
use Rattle.interleaving.specs.Machine.{System}
use Rattle.interleaving.specs.Log.{Edge}
use Rattle.interleaving.specs.Stored.{system_of}
use Rattle.input_log.specs.declared.Input.{Input}
use Rattle.rv32_hart.specs.Hart.{Hart}
use Rattle.rv32_hart.specs.Hardware.{hardware}
use Rattle.lease_ledger.specs.Ledger as ledger
use Rattle.lease_ledger.specs.Ledger.{Stub, stepped}
use Rattle.hart_lease.specs.declared.taken.Taken.{Taken}
use Rattle.hart_lease.specs.Slots.{slot_at, present_bytes}
use Rattle.hart_lease.specs.Taken.{taken_at, written_first}
use Rattle.hart_lease.specs.Leases.{LeaseView, base_at}
use Rattle.hart_lease.specs.Turns.{turns_from}

-- for each page that the lease took, the count at which it first did
abbrev pub read_counts : List (Option Taken) → ℕ → Option ℕ
read_counts taken page = option_map (λ t. t.read_at) (taken_at taken page)

-- and for each that it took to write
abbrev pub write_counts : List (Option Taken) → ℕ → Option ℕ
write_counts taken page = written_first (taken_at taken page)

abbrev pub stub_of : List (Option Taken) → List Edge → Stub
stub_of taken edges = record { read_at = read_counts taken; write_at = write_counts taken; edges = edges }

-- the lease, in which these edges wait
abbrev pub as_lease : LeaseView → List Edge → ledger.Lease (Option Hart) (Option (List ℕ)) (List Input)
as_lease l edges =
    record { hart = l.hart; state = Some l.base; pages = base_at l; stub = stub_of l.taken edges; turns = turns_from l.inputs l.hart l.steps }

-- harts on RAM of so many pages
abbrev pub system : ℕ → System (Option Hart) (Option (List ℕ)) (List Input)
system pages = system_of (hardware pages)

-- The lease is one of the theory's: each of its steps used only what it had taken by that step's count. On what it was lent
-- they lead to what it has at present.
pub record IsPlayed (l : LeaseView) : Type 0 where
  pub lease : ledger.IsLease (system (length l.slots)) (as_lease l [])
  pub hart : (stepped (system (length l.slots)) (as_lease l [])).harts l.hart ≡ Some l.present
  pub pages : (page : ℕ) → is_some (read_counts l.taken page) ≡ true →
      (stepped (system (length l.slots)) (as_lease l [])).pages page ≡ Some (present_bytes (slot_at l.slots page))
  pub based : (page : ℕ) → is_some (read_counts l.taken page) ≡ true → (bytes : List ℕ) × (base_at l page ≡ Some bytes)
