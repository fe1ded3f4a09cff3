-- Histories of one page: harts ask for its right, take steps, give the right up and lower it, in any order.
use Rattle.std.specs.Prelude.{ℕ, ◌≡◌, ◌≢◌, ◌<◌, ◌≤◌, ◌⊎◌, Bool, true, false, List, [], ◌∷◌, ◌++◌, Contains}
use Rattle.ft_types.specs.declared.names.Want.{Want}
use Rattle.ft_types.specs.declared.names.TheConstants.{HART_LIMIT}
use Rattle.interleaving.specs.Lists.{EachPair}
use Rattle.interleaving.specs.Log.{Edge, Place, Before, bump}
use Rattle.crew_pages.specs.Rights.{Right, unused, holds, owns, IsFree, IsOwed, given, give_up, lower}

-- a step that touched the page, and whether it wrote it
pub record Deed : Type 0 where
  pub place : Place
  pub writes : Bool

pub record History : Type 0 where
  pub counts : ℕ → ℕ  -- how many steps each hart has taken
  pub right : Right
  pub edges : List Edge  -- all that were given
  pub deeds : List Deed  -- in the order in which they were done

-- the hart's next step
abbrev pub next : History → ℕ → Place
next s h = record { hart = h; step = s.counts h }

abbrev pub begin : (ℕ → ℕ) → History
begin counts = record { counts = counts; right = unused; edges = []; deeds = [] }

abbrev pub asked : History → ℕ → Want → List Edge → History
asked s h want edges = record { counts = s.counts; right = given s.right h want (s.counts h); edges = s.edges ++ edges; deeds = s.deeds }

abbrev pub stepped : History → ℕ → List Deed → History
stepped s h deeds = record { counts = bump s.counts h; right = s.right; edges = s.edges; deeds = s.deeds ++ deeds }

abbrev pub gave_up : History → ℕ → History
gave_up s h = record { counts = s.counts; right = give_up s.right h (s.counts h); edges = s.edges; deeds = s.deeds }

abbrev pub lowered : History → ℕ → History
lowered s h = record { counts = s.counts; right = lower s.right h (s.counts h); edges = s.edges; deeds = s.deeds }

-- The histories of a machine with `crew` harts. An ask that is refused changes nothing, and stands in none.
pub data Reached (crew : ℕ) : History → Type 0 where
  Begun : (counts : ℕ → ℕ) → Reached crew (begin counts)
  -- nobody's right stands against the ask, and the edges are those owed
  Asked : {s : History} (h : ℕ) (want : Want) (edges : List Edge) → Reached crew s → h < crew → IsFree s.right h want →
      ((e : Edge) → IsOwed s.right h want (s.counts h) e → Contains edges e) →
      ((e : Edge) → Contains edges e → IsOwed s.right h want (s.counts h) e) → Reached crew (asked s h want edges)
  -- a step that doesn't touch the page, one that reads it, which takes a right, and one that writes it, which takes the writer's
  Elsewhere : {s : History} (h : ℕ) → Reached crew s → Reached crew (stepped s h [])
  Reads : {s : History} (h : ℕ) → Reached crew s → holds s.right h ≡ true → Reached crew (stepped s h (record { place = next s h; writes = false } ∷ []))
  Writes : {s : History} (h : ℕ) → Reached crew s → owns s.right h ≡ true → Reached crew (stepped s h (record { place = next s h; writes = true } ∷ []))
  GaveUp : {s : History} (h : ℕ) → Reached crew s → holds s.right h ≡ true → Reached crew (gave_up s h)
  Lowered : {s : History} (h : ℕ) → Reached crew s → owns s.right h ≡ true → Reached crew (lowered s h)

-- of different harts, and one of them writes
abbrev pub Conflict : Deed → Deed → Type 0
Conflict a b = (a.place.hart ≢ b.place.hart) × ((a.writes ≡ true) ⊎ (b.writes ≡ true))

pub record IsOrdered (crew : ℕ) (s : History) : Type 0 where
  -- whoever holds the right comes, by the edges given, after each earlier step of another hart that wrote the page
  pub reader : (h : ℕ) → holds s.right h ≡ true → (a : Deed) → Contains s.deeds a → a.place.hart ≢ h → a.writes ≡ true →
      Before s.edges a.place (next s h)
  -- and whoever may write it, after each that touched it
  pub writer : (h : ℕ) → owns s.right h ≡ true → (a : Deed) → Contains s.deeds a → a.place.hart ≢ h → Before s.edges a.place (next s h)
  -- so conflicting steps stand in the order that the edges demand
  pub deeds : EachPair (λ a b. Conflict a b → Before s.edges a.place b.place) s.deeds
  -- each edge is of a step that its hart had reached, after steps that the other had taken
  pub edges : (e : Edge) → Contains s.edges e → (e.hart < crew) × (e.step ≤ s.counts e.hart) × (e.other < crew) × (e.count ≤ s.counts e.other)

-- in every history
abbrev pub KeepsOrder : Type 0
KeepsOrder = (crew : ℕ) (s : History) → crew ≤ HART_LIMIT → Reached crew s → IsOrdered crew s
