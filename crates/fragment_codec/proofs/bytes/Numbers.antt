-- The numbers that `byteorder` reads are std's.
use Rattle.std.proofs.Common.{◌≡◌, ℕ, List, arith}
use Rattle.std.specs.Int.{w16, w32, w64, from_le_bytes}
use Rattle.byteorder.specs.Endian.{little_number}

pub little_16 : (bytes : List ℕ) → little_number 2 bytes ≡ from_le_bytes w16 bytes
little_16 bytes = omega arith

pub little_32 : (bytes : List ℕ) → little_number 4 bytes ≡ from_le_bytes w32 bytes
little_32 bytes = omega arith

pub little_64 : (bytes : List ℕ) → little_number 8 bytes ≡ from_le_bytes w64 bytes
little_64 bytes = omega arith
