-- A seal, by which a line is known to be whole, and of this guest.
use Rattle.std.specs.Prelude.{ℕ, List, ◌∷◌, ◌++◌, take}
use Rattle.std.specs.Int.{w32, from_be_bytes}
use Rattle.sha2.specs.Sha256.{sha256}
use Rattle.ft_types.specs.Guests.{GuestParts}
use Rattle.ft_types.specs.Text.{word}

-- the first four bytes, as a number, of SHA-256 of the image's digest and the text
unfoldable pub seal : GuestParts → List ℕ → ℕ
seal guest text = from_be_bytes w32 (take 4 (sha256 (guest.digest ++ text)))

-- the text, and behind a space its seal, as a word
abbrev pub sealed : GuestParts → List ℕ → List ℕ
sealed guest text = text ++ 32 ∷ word (seal guest text)
