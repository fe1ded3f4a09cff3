-- Machines that only wait: nothing but counts changes until an input comes.
use Rattle.std.specs.Prelude.{◌≡◌, ◌<◌, ◌≤◌, ◌-◌, ◌⊎◌, ℕ, Bool, List, zero, suc, [], true, Some, drop, map, slice_get, slice_index}
use Rattle.ft_types.specs.declared.names.TheConstants.{COUNT_LIMIT}
use Rattle.rv32_hart.specs.Hart.{Hart, csr_words, device_words, without_outputs}
use Rattle.rv32_hart.specs.Ram.{Ram}
use Rattle.rv32_hart.specs.Step.{IsTaken}
use Rattle.guest_image.specs.Machine.{MachineState}
use Rattle.hart_lease.specs.Slots.{ram_of}
use Rattle.hart_lease.specs.declared.lease_pages.Slot.TheVariants.{Readable}
use Rattle.leading.specs.declared.waiting.TheConstants.{LOOP}

-- RAM as it stands, for a hart that may read all pages and write none
abbrev pub only_read : MachineState → Ram
only_read machine = ram_of (map (λ bytes. Readable bytes) machine.pages)

-- the hart takes a step without an input, and neither writes a page nor puts anything out
pub record TakesStep (ram : Ram) (h k : Hart) : Type 0 where
  pub below : h.count < COUNT_LIMIT - 1
  pub taken : IsTaken [] h ram k ram
  pub silent : k.outputs ≡ []

-- so many such steps
abbrev pub TakesSteps : ℕ → Ram → Hart → Hart → Type 0
TakesSteps zero ram h k = k ≡ h
TakesSteps (suc n) ram h k = (mid : Hart) × TakesSteps n ram h mid × TakesStep ram mid k

-- the words of its state, but for its count and what it has put out
abbrev pub stand : Hart → ℕ × List ℕ × List ℕ × List ℕ × List ℕ × List ℕ × Bool
stand h = (h.pc, drop 1 h.registers, csr_words h, device_words h, h.rung, h.received.heard, h.halted)

-- the second stands where the first does: nothing of it is another but its count and what was put out
abbrev pub StandsAgain : Hart → Hart → Type 0
StandsAgain h k = stand k ≡ stand h

-- the hart goes round: by 1 to LOOP steps, which write no page and put nothing out, it comes to where it stands
pub record GoesRound (ram : Ram) (h : Hart) : Type 0 where
  pub steps : ℕ
  pub some : 0 < steps
  pub few : steps ≤ LOOP
  pub last : Hart
  pub takes : TakesSteps steps ram (without_outputs h) last
  pub again : StandsAgain h last

-- it has heard each bell that was rung for it
abbrev pub HasHeardAll : MachineState → ℕ → Hart → Type 0
HasHeardAll machine hart h =
    (source : ℕ) (s : Hart) → slice_get machine.harts source ≡ Some s → slice_index s.rung hart ≡ slice_index h.received.heard source

-- a hart of the machine only waits: it has heard all bells, and is halted or goes round
abbrev pub Waits : MachineState → ℕ → Hart → Type 0
Waits machine hart h = HasHeardAll machine hart h × ((h.halted ≡ true) ⊎ GoesRound (only_read machine) h)

-- each of its harts does
abbrev pub OnlyWaits : MachineState → Type 0
OnlyWaits machine = (hart : ℕ) (h : Hart) → slice_get machine.harts hart ≡ Some h → Waits machine hart h
