-- What a page's right says of the steps that used the page, and that asking, giving up and lowering keep it.
use Rattle.std.specs.Prelude.{ℕ, ◌≡◌, ◌≢◌, ◌<◌, ◌≤◌, ◌⊎◌, true, false, List, [], Option, Some, Contains}
use Rattle.ft_types.specs.declared.names.Want.{Want}
use Rattle.ft_types.specs.declared.names.TheConstants.{HART_LIMIT}
use Rattle.interleaving.specs.Log.{Edge, Place, Before}
use Rattle.crew_pages.specs.declared.right.LastWriter.{LastWriter}
use Rattle.crew_pages.specs.Rights.{Right, Shared, Exclusive, unused, holds, owns, IsFree, has_it, IsOwed, given, give_up, lower}

abbrev pub since_of : Right → Option LastWriter
since_of (Shared since readers left) = since
since_of (Exclusive owner at since left) = since

abbrev pub left_of : Right → ℕ → Option ℕ
left_of (Shared since readers left) = left
left_of (Exclusive owner at since left) = left

abbrev pub at_of : Right → ℕ
at_of (Shared since readers left) = 0
at_of (Exclusive owner at since left) = at

abbrev pub IsAmong : List Edge → List Edge → Type 0
IsAmong edges more = (e : Edge) → Contains edges e → Contains more e

-- an edge puts the hart's steps from n on after the first m of g
pub record Knows (edges : List Edge) (h n g m : ℕ) : Type 0 where
  pub edge : Edge
  pub is_edge : Contains edges edge
  pub hart : edge.hart ≡ h
  pub step : edge.step ≤ n
  pub other : edge.other ≡ g
  pub count : m ≤ edge.count

-- the step is one of the writer's first, or before one of these
abbrev pub Upto : List Edge → LastWriter → Place → Type 0
Upto edges w a = ((a.hart ≡ w.hart) × (a.step < w.count)) ⊎ ((k : ℕ) × (k < w.count) × Before edges a (record { hart = w.hart; step = k }))

-- whoever comes after the last writer comes after the step
pub record Covered (edges : List Edge) (since : Option LastWriter) (a : Place) : Type 0 where
  pub writer : LastWriter
  pub is : since ≡ Some writer
  pub upto : Upto edges writer a

-- the step's hart read since the last writer and left behind that step
abbrev pub LeftBy : (ℕ → Option ℕ) → Place → Type 0
LeftBy left a = (m : ℕ) × (left a.hart ≡ Some m) × (a.step < m)

-- from the step at which it got the right on, the owner comes after the last writer and after all that left, by these edges
pub record OwnerKnows (own : List Edge) (late h : ℕ) (r : Right) : Type 0 where
  pub at : at_of r ≤ late
  pub since : (w : LastWriter) → since_of r ≡ Some w → w.hart ≢ h → Knows own h (at_of r) w.hart w.count
  pub left : (g m : ℕ) → left_of r g ≡ Some m → g ≢ h → Knows own h (at_of r) g m

-- What a page's right says, of a machine with `crew` harts.
-- edges, settled     the log's edges, and how many steps of each hart have entered the history
-- own                the edges that hold for a hart: the log's, and those that wait until its open steps enter the history
-- now, late          the count at which a hart took the right to read, or a later one, and a bound of that at which it got
--                    the right to write
-- Wrote, Touched     tell of each step of the history whether it wrote the page, and whether it read or wrote it
pub record IsRight (crew : ℕ) (edges : List Edge) (settled : ℕ → ℕ) (own : ℕ → List Edge) (now late : ℕ → ℕ) (Wrote Touched : Place → Type 0)
    (r : Right) : Type 0 where
  -- a step that wrote is covered by the last writer, or is of the owner, since it got the right
  pub wrote : (a : Place) → Wrote a → Covered edges (since_of r) a ⊎ ((owns r a.hart ≡ true) × (at_of r ≤ a.step))
  -- a step that touched is covered by the last writer, or its hart left behind it, or its hart holds the right
  pub touched : (a : Place) → Touched a → Covered edges (since_of r) a ⊎ (LeftBy (left_of r) a ⊎ (holds r a.hart ≡ true))
  pub holders : (h : ℕ) → holds r h ≡ true → h < crew
  pub since : (w : LastWriter) → since_of r ≡ Some w → (w.hart < crew) × (w.count ≤ settled w.hart)
  pub left : (g m : ℕ) → left_of r g ≡ Some m → (g < crew) × (m ≤ settled g)
  -- each holder comes after the last writer, and the owner after all that left
  pub reader : (h : ℕ) → holds r h ≡ true → (w : LastWriter) → since_of r ≡ Some w → w.hart ≢ h → Knows (own h) h (now h) w.hart w.count
  pub owner : (h : ℕ) → owns r h ≡ true → OwnerKnows (own h) (late h) h r

-- what a page's right is judged by, with lists of the steps that wrote the page and that touched it
pub record Scene : Type 0 where
  pub crew : ℕ
  pub edges : List Edge
  pub settled : ℕ → ℕ
  pub own : ℕ → List Edge
  pub now : ℕ → ℕ
  pub late : ℕ → ℕ
  pub wrote : List Place
  pub touched : List Place

abbrev pub IsRightOf : Scene → Right → Type 0
IsRightOf s r = IsRight s.crew s.edges s.settled s.own s.now s.late (Contains s.wrote) (Contains s.touched) r

-- a right that nobody used says of a history without the page what it is to say
abbrev pub Begins : Type 0
Begins =
    (crew : ℕ) (edges : List Edge) (settled : ℕ → ℕ) (own : ℕ → List Edge) (now late : ℕ → ℕ) →
    IsRightOf (record { crew = crew; edges = edges; settled = settled; own = own; now = now; late = late; wrote = []; touched = [] }) unused

-- the history goes on: more edges, higher counts, and more steps of harts that hold the right
pub record GoesOn (old new : Scene) (r : Right) : Type 0 where
  pub crew : old.crew ≡ new.crew
  pub edges : IsAmong old.edges new.edges
  pub settled : (h : ℕ) → old.settled h ≤ new.settled h
  pub own : (h : ℕ) → holds r h ≡ true → IsAmong (old.own h) (new.own h)
  pub now : (h : ℕ) → holds r h ≡ true → old.now h ≤ new.now h
  pub late : (h : ℕ) → holds r h ≡ true → old.late h ≤ new.late h
  pub wrote : (a : Place) → Contains new.wrote a → Contains old.wrote a ⊎ ((owns r a.hart ≡ true) × (at_of r ≤ a.step))
  pub touched : (a : Place) → Contains new.touched a → Contains old.touched a ⊎ (holds r a.hart ≡ true)

abbrev pub KeepsGoingOn : Type 0
KeepsGoingOn = (old new : Scene) (r : Right) → IsRightOf old r → GoesOn old new r → IsRightOf new r

-- the hart may leave at its settled count: the steps that used the page are settled, those that wrote it touched it, and the
-- edges of the hart's settled steps are in the log
pub record MayLeave (s : Scene) (h : ℕ) : Type 0 where
  pub numbered : (a : Place) → Contains s.touched a → a.step < s.settled a.hart
  pub within : (a : Place) → Contains s.wrote a → Contains s.touched a
  pub mine : (k g m : ℕ) → k < s.settled h → Knows (s.own h) h k g m → Knows s.edges h k g m

abbrev pub KeepsGivingUp : Type 0
KeepsGivingUp =
    (s : Scene) (r : Right) (h : ℕ) → IsRightOf s r → MayLeave s h → holds r h ≡ true → IsRightOf s (give_up r h (s.settled h))

abbrev pub KeepsLowering : Type 0
KeepsLowering =
    (s : Scene) (r : Right) (h : ℕ) → IsRightOf s r → MayLeave s h → s.late h ≤ s.now h → owns r h ≡ true →
    IsRightOf s (lower r h (s.settled h))

-- the hart takes the right at its count n: nobody's right stands against it, it has the edges that it owes, and if the right
-- is new to it, n is its count for reading, or within the bound of that for writing
pub record Takes (s : Scene) (r : Right) (h : ℕ) (want : Want) (n : ℕ) : Type 0 where
  pub few : s.crew ≤ HART_LIMIT
  pub is_hart : h < s.crew
  pub free : IsFree r h want
  pub owed : (e : Edge) → IsOwed r h want n e → Contains (s.own h) e
  pub first : holds r h ≡ false → s.now h ≡ n
  pub bound : owns r h ≡ false → owns (given r h want n) h ≡ true → n ≤ s.late h

abbrev pub KeepsGiving : Type 0
KeepsGiving =
    (s : Scene) (r : Right) (h : ℕ) (want : Want) (n : ℕ) → IsRightOf s r → Takes s r h want n → IsRightOf s (given r h want n)

-- an edge that is owed is to a hart that there is, and asks for no more steps than have entered the history
abbrev pub OwesSettled : Type 0
OwesSettled =
    (s : Scene) (r : Right) (h : ℕ) (want : Want) (n : ℕ) (e : Edge) → IsRightOf s r → IsOwed r h want n e →
    (e.other < s.crew) × (e.count ≤ s.settled e.other)

-- b is a step, not yet settled, of a hart that holds the right, and a an earlier one of another hart that conflicts with what
-- it may do: a wrote the page, or a touched it and the hart may write at b
pub record MustFollow (s : Scene) (r : Right) (a b : Place) : Type 0 where
  pub holder : holds r b.hart ≡ true
  pub since_then : s.now b.hart ≤ b.step
  pub unsettled : s.settled b.hart ≤ b.step
  pub apart : a.hart ≢ b.hart
  pub touched : Contains s.touched a
  pub conflict : Contains s.wrote a ⊎ ((owns r b.hart ≡ true) × (at_of r ≤ b.step))

-- then a comes before b
abbrev pub PutsBefore : Type 0
PutsBefore =
    (s : Scene) (r : Right) (a b : Place) → IsRightOf s r → IsAmong s.edges (s.own b.hart) → MustFollow s r a b → Before (s.own b.hart) a b

-- beside an owner no other hart holds a right
abbrev pub OneWriter : Type 0
OneWriter = (r : Right) (h g : ℕ) → owns r h ≡ true → holds r g ≡ true → h ≡ g

-- a hart that is given what it asked for has it
abbrev pub GivesIt : Type 0
GivesIt = (r : Right) (h : ℕ) (want : Want) (n : ℕ) → IsFree r h want → has_it (given r h want n) h want ≡ true
