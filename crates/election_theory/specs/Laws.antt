-- No term begins twice.
use Rattle.std.specs.Prelude.{ℕ, ◌≡◌, ◌≢◌, ◌⊎◌, ◌+◌, ◌<◌, Bool, true, [], ◌∷◌, Contains, Some}
use Rattle.interleaving.specs.Lists.{EachPair}
use Rattle.log_join.specs.Families.{Past}
use Rattle.ft_types.specs.Guests.{GuestParts, IsGuest}
use Rattle.fenced_theory.specs.Lists.{how_many}
use Rattle.fenced_theory.specs.Recorders.{Recorder, IsBoot, CanLive}
use Rattle.fenced_theory.specs.Worlds.{Quorum}
use Rattle.fenced_theory.specs.Worlds as fences
use Rattle.fenced_theory.specs.Laws.{IsFailover, AreRightNotes}
use Rattle.election_theory.specs.Elections.{Election, Comes}

-- no two candidates may stand in one term
abbrev pub AreDealt : (ℕ → ℕ → Bool) → Type 0
AreDealt may = (u c d : ℕ) → may c u ≡ true → may d u ≡ true → c ≡ d

-- at most half of the keepers, rounded up, hold what goes out
abbrev pub AreShared : Quorum → Type 0
AreShared quorum = quorum.need + quorum.need < quorum.keepers + 2

-- a term may begin from these keepers
abbrev pub IsEnough : Quorum → (ℕ → Bool) → Type 0
IsEnough quorum chosen = quorum.keepers < quorum.need + how_many quorum.keepers chosen

-- so any two such sets of keepers share one
abbrev pub Overlaps : Quorum → Type 0
Overlaps quorum =
    AreShared quorum → (a b : ℕ → Bool) → IsEnough quorum a → IsEnough quorum b → (k : ℕ) × (k < quorum.keepers) × (a k ≡ true) × (b k ≡ true)

module _ {Book Fact : Type 0} (recorder : Recorder Book Fact) (guest : GuestParts) (quorum : Quorum) where
  pub record IsUnique (e : Election Book) : Type 0 where
    -- at most one primary of a term ever began
    pub once : EachPair (λ a b. a.term ≢ b.term) e.begun
    -- and each primary is one that began
    pub began : (u : ℕ) (p : Past Book) → e.world.terms u ≡ Some p → (c : ℕ) × Contains e.begun (record { term = u; candidate = c })
    -- so the world is one of fencing's, where a term is granted once
    pub fenced : fences.Comes recorder guest quorum e.world
    -- and what is said of these holds: no output that went out is lost or changed
    pub lawful : IsFailover recorder quorum e.world
    pub noted : AreRightNotes recorder e.world

  -- where no two candidates may stand in one term, or any two sets that are enough share a keeper
  abbrev pub Unique : (ℕ → ℕ → Bool) → Type 0
  Unique may = AreDealt may ⊎ AreShared quorum → (e : Election Book) → Comes recorder guest quorum may e → IsUnique e

-- ---- a race

-- there is one in which two candidates stand in term 2, a keeper gave it to the one and two others to the other, which began it
pub record IsRace {Book Fact : Type 0} (recorder : Recorder Book Fact) (guest : GuestParts) (e : Election Book) : Type 0 where
  pub comes : Comes recorder guest (record { keepers = 3; need = 2 }) (λ candidate u. true) e
  pub begun : e.begun ≡ record { term = 2; candidate = 0 } ∷ (record { term = 1; candidate = 0 } ∷ [])
  pub other : e.standing 1 ≡ 2
  pub gave : e.to 2 2 ≡ Some 1

abbrev pub Races : {Book Fact : Type 0} → Recorder Book Fact → Type 0
Races {Book} {Fact} recorder =
    (guest : GuestParts) → IsGuest guest → (boot : Book) → IsBoot recorder boot → CanLive recorder → (e : Election Book) × IsRace recorder guest e
