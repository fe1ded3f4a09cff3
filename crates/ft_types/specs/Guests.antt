-- What contracts see of a guest, what each keeps to, and when two are equal.
use Rattle.std.specs.Prelude.{◌≡◌, ◌<◌, ◌≤◌, ℕ, ◌&&◌, ◌==◌, Bool, List, length, nat_eq, slice_index}
use Rattle.std.specs.Cmp.Lexicographic.{pointwise}
use Rattle.ft_types.specs.declared.names.TheConstants.{HART_LIMIT}

-- the bytes of its image file's SHA-256, and its number of harts
pub record GuestParts : Type 0 where
  pub digest : List ℕ
  pub harts : ℕ

-- a digest has 32 bytes
pub record IsDigest (digest : List ℕ) : Type 0 where
  pub len : length digest ≡ 32
  pub bytes : (i : ℕ) → slice_index digest i < 256

-- a guest has a hart at least, and no more than a machine may have
pub record IsGuest (guest : GuestParts) : Type 0 where
  pub digest : IsDigest guest.digest
  pub some : 1 ≤ guest.harts
  pub limit : guest.harts ≤ HART_LIMIT

-- the two have the same parts
abbrev pub same_guest : GuestParts → GuestParts → Bool
same_guest a b = pointwise nat_eq a.digest b.digest && (a.harts == b.harts)
