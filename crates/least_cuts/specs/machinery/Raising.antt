-- Counts that are raised until they are a closed cut: private words.
use Rattle.std.specs.Prelude.{ℕ, ◌≡◌, ◌<◌, ◌≤◌, Bool, true, false, List, Contains, length, slice_set, sum}
use Rattle.ft_types.specs.Counts.{count_at}
use Rattle.interleaving.specs.Lists.{IsWithin}
use Rattle.interleaving.specs.Log.{Edge, IsClosed, IsCut}
use Rattle.edge_log.specs.declared.Edge.{Edge as LogEdge}
use Rattle.hart_replay.specs.declared.plans.PlannedLeg.{PlannedLeg}
use Rattle.hart_replay.specs.Plans.{log_of}

-- no closed counts that were above them come to be below, and the counts stay within the leg's ends
pub record IsRaised (leg : PlannedLeg) (old new : List ℕ) : Type 0 where
  pub harts : length new ≡ length old
  pub more : IsWithin (count_at old) (count_at new)
  pub least : (other : ℕ → ℕ) → IsClosed (log_of leg).edges other → IsWithin (count_at old) other → IsWithin (count_at new) other

-- the edge is of a step below this count, and the count for which it asks was raised to it
pub record IsRaisedBy (e : LogEdge) (end : ℕ) (old new : List ℕ) : Type 0 where
  pub below : e.at < end
  pub asks : count_at old e.other < e.after
  pub raised : new ≡ slice_set old e.other e.after

-- the edges of the hart's steps below the counts are met
abbrev pub AreMetOf : PlannedLeg → ℕ → List ℕ → Type 0
AreMetOf leg hart counts = (e : Edge) → Contains (log_of leg).edges e → e.hart ≡ hart → e.step < count_at counts hart → e.count ≤ count_at counts e.other

-- the sum has grown where one was raised; where none was, the counts are the same and the hart's edges are met
abbrev pub RaisesFor : PlannedLeg → ℕ → List ℕ → Bool → List ℕ → Type 0
RaisesFor leg hart old true new = IsRaised leg old new × (sum old < sum new)
RaisesFor leg hart old false new = (new ≡ old) × AreMetOf leg hart old

-- the same of the first harts
abbrev pub Raises : PlannedLeg → ℕ → List ℕ → Bool → List ℕ → Type 0
Raises leg many old true new = IsRaised leg old new × (sum old < sum new)
Raises leg many old false new = (new ≡ old) × ((hart : ℕ) → hart < many → AreMetOf leg hart old)

-- a closed cut of the leg at which the hart has so many steps or more, and no closed cut with so many has fewer of any hart
pub record IsLeastAbove (leg : PlannedLeg) (hart steps : ℕ) (counts : List ℕ) : Type 0 where
  pub harts : length counts ≡ length leg.base
  pub cut : IsCut (log_of leg) (count_at counts)
  pub count : steps ≤ count_at counts hart
  pub least : (other : ℕ → ℕ) → IsCut (log_of leg) other → steps ≤ other hart → IsWithin (count_at counts) other
