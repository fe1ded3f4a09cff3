-- Laws of closed cuts, and of edges that say nothing new.
use Rattle.std.specs.Prelude.{ℕ, ◌≡◌, ◌<◌, ◌≤◌, ◌⊎◌, ◌↔◌, max, List, Contains}
use Rattle.interleaving.specs.Lists.{put, IsWithin}
use Rattle.interleaving.specs.Machine.{System, Machine, Turn}
use Rattle.interleaving.specs.Log.{Edge, Log, Place, Before, IsClosed, IsMet, IsHonest, Begins}

-- a start below which no edge names a step is closed
abbrev pub StartIsClosed : Type 0
StartIsClosed =
    (edges : List Edge) (start : ℕ → ℕ) → ((e : Edge) → Contains edges e → start e.hart ≤ e.step) → IsClosed edges start

-- the greater of two closed cuts, hart by hart, is closed
abbrev pub GreaterIsClosed : Type 0
GreaterIsClosed =
    (edges : List Edge) (a b : ℕ → ℕ) → IsClosed edges a → IsClosed edges b →
    IsClosed edges (λ hart. max (a hart) (b hart))

-- the greatest closed cut below a bound
pub record IsGreatest (edges : List Edge) (bound cut : ℕ → ℕ) : Type 0 where
  pub closed : IsClosed edges cut
  pub below : IsWithin cut bound
  pub greatest : (other : ℕ → ℕ) → IsClosed edges other → IsWithin other bound → IsWithin other cut

-- below each bound there is a greatest
abbrev pub HasGreatest : Type 0
HasGreatest = (edges : List Edge) (bound : ℕ → ℕ) → (cut : ℕ → ℕ) × IsGreatest edges bound cut

-- the edge forbids its step at these counts
abbrev pub IsBroken : (ℕ → ℕ) → Edge → Type 0
IsBroken cut e = (e.step < cut e.hart) × (cut e.other < e.count)

-- the bound, with the edge's hart stopped in front of the edge's step
abbrev pub lowered : (ℕ → ℕ) → Edge → ℕ → ℕ
lowered bound e = put bound e.hart e.step

-- a bound is closed, or an edge forbids its step there
abbrev pub ClosedOrBroken : Type 0
ClosedOrBroken =
    (edges : List Edge) (bound : ℕ → ℕ) → IsClosed edges bound ⊎ ((e : Edge) × Contains edges e × IsBroken bound e)

-- lowering one hart that an edge forbids makes the bound less, and keeps each closed cut below it, so that what is the
-- greatest there is the greatest below the bound
pub record IsLowering (edges : List Edge) (bound : ℕ → ℕ) (e : Edge) : Type 0 where
  pub less : lowered bound e e.hart < bound e.hart
  pub below : IsWithin (lowered bound e) bound
  pub keeps : (cut : ℕ → ℕ) → IsClosed edges cut → IsWithin cut bound → IsWithin cut (lowered bound e)
  pub greatest : (cut : ℕ → ℕ) → IsGreatest edges (lowered bound e) cut → IsGreatest edges bound cut

-- this holds for each edge that is broken, so lowering until none is leads to the greatest
abbrev pub LoweringKeeps : Type 0
LoweringKeeps =
    (edges : List Edge) (bound : ℕ → ℕ) (e : Edge) → Contains edges e → IsBroken bound e → IsLowering edges bound e

-- the edge says nothing that the start or another edge between the two harts does not
abbrev pub IsImplied : List Edge → (ℕ → ℕ) → Edge → Type 0
IsImplied edges start e =
    (e.count ≤ start e.other) ⊎
    ((by : Edge) × Contains edges by × (by.hart ≡ e.hart) × (by.other ≡ e.other) × (by.step ≤ e.step) ×
    (e.count ≤ by.count))

-- `few` are edges of `all` that imply the others
pub record IsEnough (few all : List Edge) (start : ℕ → ℕ) : Type 0 where
  pub among : (e : Edge) → Contains few e → Contains all e
  pub implied : (e : Edge) → Contains all e → IsImplied few start e
  pub start_closed : IsClosed few start

-- both have the same cuts, the same order from the start on, let the same harts go, and have the same schedules
pub record IsSameOrder (few all : List Edge) (start : ℕ → ℕ) : Type 0 where
  pub cuts : (cut : ℕ → ℕ) → IsWithin start cut → IsClosed few cut ↔ IsClosed all cut
  pub before : (a b : Place) → start a.hart ≤ a.step → Before few a b ↔ Before all a b
  pub met : (now : ℕ → ℕ) (hart : ℕ) → IsWithin start now → IsClosed few now → IsMet few now hart ↔ IsMet all now hart
  pub schedules : (cut : ℕ → ℕ) (order : List ℕ) → Begins few cut start order ↔ Begins all cut start order

-- where few edges imply the others, these may be dropped
abbrev pub ImpliedMayGo : Type 0
ImpliedMayGo = (few all : List Edge) (start : ℕ → ℕ) → IsEnough few all start → IsSameOrder few all start

-- and a log that was honest stays so
abbrev pub StaysHonest : {Hart Page Input : Type 0} → System Hart Page Input → Type 0
StaysHonest {Hart} {Page} {Input} system =
    (log : Log Input) (few : List Edge) (m : Machine Hart Page) (turns : List (Turn Input)) →
    IsHonest system log m turns → IsEnough few log.edges log.start →
    IsHonest system (record { edges = few; inputs = log.inputs; start = log.start; end = log.end }) m turns
