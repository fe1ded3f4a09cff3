-- What holds of every lease that takes a step or lacks a right.
use Rattle.std.specs.Prelude.{◌≡◌, ◌<◌, ◌+◌, ℕ, List, length, map, Option, None, Some}
use Rattle.ft_types.specs.declared.names.Want.{Want}
use Rattle.ft_types.specs.declared.names.Want.TheVariants.{Read, Write}
use Rattle.rv32_hart.specs.Step.{IsMissing}
use Rattle.rv32_hart.specs.declared.outcome.Tick.TheVariants.{Done}
use Rattle.hart_lease.specs.Slots.{ram_of, slot_at, want_of}
use Rattle.hart_lease.specs.Leases.{LeaseView, Ticks}
use Rattle.input_log.specs.declared.Input.{Input}

-- a step counts one
abbrev pub StepCounts : Type 0
StepCounts = (l new : LeaseView) → Ticks Done l new → new.present.count ≡ l.present.count + 1

-- a step leaves the rights of a lease
abbrev pub StepKeepsRights : Type 0
StepKeepsRights = (l new : LeaseView) → Ticks Done l new → map want_of new.slots ≡ map want_of l.slots

-- the right is the asked one, or covers it
abbrev pub Covers : Option Want → Want → Type 0
Covers None want = ⊥
Covers (Some Write) want = Unit {0}
Covers (Some Read) Read = Unit {0}
Covers (Some Read) Write = ⊥

-- a right that a step lacks is one on a page of RAM, and the lease has none there that covers it
abbrev pub LacksOnAPage : Type 0
LacksOnAPage =
    (l : LeaseView) (inputs : List Input) (page : ℕ) (want : Want) → IsMissing inputs l.present (ram_of l.slots) (page, want) →
    (page < length l.slots) × (Covers (want_of (slot_at l.slots page)) want → ⊥)
