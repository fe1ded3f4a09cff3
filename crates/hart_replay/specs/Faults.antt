-- The numbers of the faults.
use Rattle.std.specs.Prelude.{ℕ}
use Rattle.hart_replay.specs.declared.fault.ReplayFault.{ReplayFault}
use Rattle.hart_replay.specs.declared.fault.ReplayFault.TheVariants.{Cyclic, HaltedInside, OtherGuest, Memory}

abbrev pub fault_number : ReplayFault → ℕ
fault_number (Cyclic counts) = 1
fault_number (HaltedInside hart count) = 2
fault_number OtherGuest = 3
fault_number Memory = 4
