-- Pages, and what a step asked for: private words.
use Rattle.std.specs.Prelude.{ℕ, ◌≡◌, List, replicate, slice_set, true, false}
use Rattle.ft_types.specs.declared.names.TheConstants.{PAGE_ROW}
use Rattle.ft_types.specs.declared.names.Want.{Want}
use Rattle.ft_types.specs.declared.names.Want.TheVariants.{Read, Write}
use Rattle.rv32_hart.specs.Ram.{Ram, IsRam, may_read, may_write}

-- at most PAGE_ROW pages, of which the step may read each that it may write
pub record AreAsked (r : Ram) : Type 0 where
  pub ram : IsRam r
  pub both : (page : ℕ) → may_write r page ≡ true → may_read r page ≡ true

-- these pages, with no right on any
abbrev pub no_rights : List (List ℕ) → Ram
no_rights contents = record { contents = contents; readable = replicate PAGE_ROW false; writable = replicate PAGE_ROW false }

-- the right on a page in addition
abbrev pub granted : Ram → ℕ → Want → Ram
granted r page Read = record r { readable = slice_set r.readable page true }
granted r page Write = record r { readable = slice_set r.readable page true; writable = slice_set r.writable page true }
