-- The numbers of the faults.
use Rattle.std.specs.Prelude.{ℕ}
use Rattle.fragment_codec.specs.declared.fault.FrameFault.{FrameFault}
use Rattle.fragment_codec.specs.declared.fault.FrameFault.TheVariants.{Magic, Version, Kind, Length, Digest, Body, Memory}

abbrev pub fault_number : FrameFault → ℕ
fault_number Magic = 1
fault_number Version = 2
fault_number Kind = 3
fault_number Length = 4
fault_number Digest = 5
fault_number Body = 6
fault_number Memory = 7
