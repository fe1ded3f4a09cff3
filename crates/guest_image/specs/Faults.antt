-- The numbers of the faults.
use Rattle.std.specs.Prelude.{ℕ}
use Rattle.guest_image.specs.declared.fault.ImageFault.{ImageFault}
use Rattle.guest_image.specs.declared.fault.ImageFault.TheVariants.{BadLine, TooLarge, NoHarts, Memory}

abbrev pub fault_number : ImageFault → ℕ
fault_number (BadLine line) = 1
fault_number TooLarge = 2
fault_number NoHarts = 3
fault_number Memory = 4
