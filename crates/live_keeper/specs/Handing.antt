-- What is written of a log that is handed over.
use Rattle.std.specs.Prelude.{◌≡◌, ◌<◌, ◌≤◌, ◌+◌, ◌++◌, ℕ, List, [], ◌∷◌}
use Rattle.ft_types.specs.Guests.{GuestParts}
use Rattle.ft_types.specs.Text.{line}
use Rattle.wire.specs.Pairs.{pair_text}
use Rattle.wire.specs.declared.pairs.Pair.{Pair}
use Rattle.stations.specs.Acts.{Act, SawFence, Fenced}
use Rattle.stations.specs.Handing.{IsHanded, IsHandedTo}
use Rattle.stations.specs.declared.reach.TheConstants.{TERM_REACH}

-- these acts, and behind them the fence for the term was put
abbrev pub fenced_behind : (List Act → Type 0) → ℕ → ℕ → List Act → Type 0
fenced_behind before last term all = (done : List Act) × before done × (all ≡ done ++ SawFence last ∷ Fenced term ∷ [])

-- The log was fenced off for a term above its last fence, and in reach of it, and behind that it was read, whole. What is written is the line of the pair,
-- and then these frames, handed over to that term.
pub record IsHandedOut (guest : GuestParts) (pair : Pair) (keeper term : ℕ) (before behind : List Act → Type 0) (bytes : List ℕ) : Type 0 where
  pub last : ℕ
  pub above : last < term
  pub in_reach : term ≤ last + TERM_REACH
  pub frames : List ℕ
  pub read : IsHanded guest (fenced_behind before last term) behind frames
  pub handed : List ℕ
  pub handed_to : IsHandedTo guest keeper term frames handed
  pub parts : bytes ≡ line (pair_text guest pair) ++ handed

-- the bytes are the line of the pair, and then frames of the keeper's log, handed over to the term
pub record HandsOver (guest : GuestParts) (pair : Pair) (keeper term : ℕ) (bytes : List ℕ) : Type 0 where
  pub frames : List ℕ
  pub handed : List ℕ
  pub handed_to : IsHandedTo guest keeper term frames handed
  pub parts : bytes ≡ line (pair_text guest pair) ++ handed
