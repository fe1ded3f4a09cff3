-- Devices over memory, as contracts see them.
use Rattle.std.specs.Prelude.{ℕ, List, length, min, Option, None, Some}

pub record MemorySourceView : Type 0 where
  pub left : List ℕ  -- the bytes that are left
  pub fails_after : Option ℕ  -- of how many of them it fails, where it does
  pub failures : ℕ

-- how many of the bytes a read may give
abbrev pub ready_of : List ℕ → Option ℕ → ℕ
ready_of left None = length left
ready_of left (Some n) = min (length left) n

pub record MemorySinkView : Type 0 where
  pub bytes : List ℕ  -- what was written
  pub room : ℕ  -- how many bytes it takes in all
  pub failures : ℕ
