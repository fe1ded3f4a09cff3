-- Faults of going live.
use Rattle.std.specs.Prelude.{ℕ}
use Rattle.hart_replay.specs.declared.fault.ReplayFault.{ReplayFault}
use Rattle.hart_replay.specs.declared.fault.ReplayFault.TheVariants.{Cyclic, HaltedInside, OtherGuest, Memory as NoMemory}
use Rattle.go_live.specs.declared.fault.LiveFault.{LiveFault}
use Rattle.go_live.specs.declared.fault.LiveFault.TheVariants.{TooFewStores, TermNotNew, Replay, Memory}

abbrev pub fault_number : LiveFault → ℕ
fault_number TooFewStores = 1
fault_number TermNotNew = 2
fault_number (Replay fault) = 3
fault_number Memory = 4

-- what a replay's fault is here
abbrev pub live_fault_of : ReplayFault → LiveFault
live_fault_of (Cyclic counts) = Replay (Cyclic counts)
live_fault_of (HaltedInside hart count) = Replay (HaltedInside hart count)
live_fault_of OtherGuest = Replay OtherGuest
live_fault_of NoMemory = Memory

-- a fact of the replay's fault, where there is one
abbrev pub IfReplay : LiveFault → (ReplayFault → Type 0) → Type 0
IfReplay (Replay fault) P = P fault
IfReplay _ P = Unit {0}
