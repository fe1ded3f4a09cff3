-- What keepers handed over to a term, for another keeper of their pair that lost its log.
use Rattle.std.specs.Prelude.{◌≡◌, ◌≢◌, ◌<◌, ℕ, List, [], ◌∷◌}
use Rattle.ft_types.specs.Guests.{GuestParts}
use Rattle.go_live.specs.Quorums.{AreEnough}
use Rattle.leading.specs.Handed.{IsWhole}
use Rattle.leading.specs.declared.handed.HandedLog.{HandedLog}
use Rattle.wire.specs.declared.pairs.Pair.{Pair}
use Rattle.live_primary.specs.Pairs.{IsOfPair}

-- Another keeper of the pair handed this log over to the term: behind the line of the pair stands the one that says so, and behind that the log.
pub record IsHandedBy (guest : GuestParts) (pair : Pair) (keeper term giver : ℕ) (log : List ℕ) : Type 0 where
  pub file : List ℕ
  pub behind : List ℕ
  pub of_pair : IsOfPair guest pair file behind
  pub handed : HandedLog
  pub whole : IsWhole guest behind handed
  pub by : handed.keeper ≡ giver
  pub other : giver ≢ keeper
  pub member : giver < pair.quorum.keepers
  pub to : handed.term ≡ term
  pub frames : whole.rest ≡ log

-- these keepers handed over these logs
abbrev pub AreHandedBy : GuestParts → Pair → ℕ → ℕ → List ℕ → List (List ℕ) → Type 0
AreHandedBy guest pair keeper term [] [] = Unit {0}
AreHandedBy guest pair keeper term [] (log ∷ logs) = ⊥
AreHandedBy guest pair keeper term (giver ∷ givers) [] = ⊥
AreHandedBy guest pair keeper term (giver ∷ givers) (log ∷ logs) =
    IsHandedBy guest pair keeper term giver log × AreHandedBy guest pair keeper term givers logs

-- Others than this keeper of the pair handed the logs over to the term, as many as a primary of the term has to have.
pub record IsRenewal (guest : GuestParts) (keeper term : ℕ) (pair : Pair) (logs : List (List ℕ)) : Type 0 where
  pub own : keeper < pair.quorum.keepers
  pub givers : List ℕ
  pub handed : AreHandedBy guest pair keeper term givers logs
  pub enough : AreEnough pair.quorum.keepers pair.quorum.need givers
