-- The right to a page, and who was there before: the concurrent-read, exclusive-write protocol of SMP-ReVirt (VEE 2008), by
-- which a page is at any moment readable by many processors, or readable and writable by one.
use Rattle.std.specs.Prelude.{ℕ, ◌≡◌, ◌≢◌, ◌<◌, ◌==◌, ◌&&◌, not, nat_lt, max, Bool, true, false, Option, Some, None, if◌then◌else◌, slice_index_or}
use Rattle.ft_types.specs.declared.names.Want.{Want}
use Rattle.ft_types.specs.declared.names.Want.TheVariants.{Read, Write}
use Rattle.ft_types.specs.declared.names.TheConstants.{HART_LIMIT}
use Rattle.interleaving.specs.Lists.{put}
use Rattle.interleaving.specs.Log.{Edge}
use Rattle.crew_pages.specs.declared.right.LastWriter.{LastWriter}
use Rattle.crew_pages.specs.declared.right.PageRight.{PageRight}
use Rattle.crew_pages.specs.declared.right.PageRight.TheVariants as stored

-- `since` is the last writer, with its count when it lost the right; `left` has each hart that read since then and left,
-- with its count on leaving; `at` is the owner's count when it got the right, and `since` and `left` are then those from before
pub data Right : Type 0 where
  Shared : (since : Option LastWriter) (readers : ℕ → Bool) (left : ℕ → Option ℕ) → Right
  Exclusive : (owner at : ℕ) (since : Option LastWriter) (left : ℕ → Option ℕ) → Right

-- a stored right, with its rows as functions of a hart's number
abbrev pub right_of : PageRight → Right
right_of (stored.Shared since readers left) = Shared since (λ hart. slice_index_or readers hart false) (λ hart. slice_index_or left hart None)
right_of (stored.Exclusive owner at since left) = Exclusive owner at since (λ hart. slice_index_or left hart None)

abbrev pub nobody : ℕ → Option ℕ
nobody hart = None

-- a page's first right
abbrev pub unused : Right
unused = Shared None (λ hart. false) nobody

-- the hart has a right to the page
abbrev pub holds : Right → ℕ → Bool
holds (Shared since readers left) hart = readers hart
holds (Exclusive owner at since left) hart = owner == hart

-- the hart may write the page
abbrev pub owns : Right → ℕ → Bool
owns (Shared since readers left) hart = false
owns (Exclusive owner at since left) hart = owner == hart

-- what `other` has cannot be beside what is wanted
abbrev pub is_against : Right → Want → ℕ → Bool
is_against (Shared since readers left) Read other = false
is_against (Shared since readers left) Write other = readers other
is_against (Exclusive owner at since left) want other = owner == other

-- another hart's right stands against what the hart wants
abbrev pub stands : Right → ℕ → Want → ℕ → Bool
stands right hart want other = not (hart == other) && is_against right want other

-- no other hart's right does
abbrev pub IsFree : Right → ℕ → Want → Type 0
IsFree right hart want = (other : ℕ) → stands right hart want other ≡ false

-- the hart holds what it wants
abbrev pub has_it : Right → ℕ → Want → Bool
has_it (Shared since readers left) hart Read = readers hart
has_it (Shared since readers left) hart Write = false
has_it (Exclusive owner at since left) hart want = owner == hart

abbrev pub count_of : Option LastWriter → ℕ → Option ℕ
count_of None other = None
count_of (Some writer) other = if writer.hart == other then Some writer.count else None

abbrev pub greater : Option ℕ → Option ℕ → Option ℕ
greater None b = b
greater (Some a) None = Some a
greater (Some a) (Some b) = Some (max a b)

-- the count of `other` that an asker comes after: for reading that of the last writer, for writing also that of each hart
-- that read since and left
abbrev pub after_count : Right → Want → ℕ → Option ℕ
after_count (Shared since readers left) Read other = count_of since other
after_count (Shared since readers left) Write other = greater (count_of since other) (left other)
after_count (Exclusive owner at since left) want other = None

-- an edge that the hart, which asks at its count n, owes: one for each other hart that it comes after, and none where it
-- has what it wants
pub record IsOwed (right : Right) (hart : ℕ) (want : Want) (n : ℕ) (e : Edge) : Type 0 where
  pub lacks : has_it right hart want ≡ false
  pub own : e.hart ≡ hart
  pub at : e.step ≡ n
  pub other : e.other ≢ hart
  pub is_hart : e.other < HART_LIMIT
  pub after : after_count right want e.other ≡ Some e.count

-- the right, once the hart was given what it asked for at its count n
abbrev pub given : Right → ℕ → Want → ℕ → Right
given (Shared since readers left) hart Read n = Shared since (put readers hart true) left
given (Shared since readers left) hart Write n = Exclusive hart n since left
given (Exclusive owner at since left) hart want n = Exclusive owner at since left

-- the hart, which holds the right, leaves at its count c; an owner that took no step since it got the right used it in none
abbrev pub give_up : Right → ℕ → ℕ → Right
give_up (Shared since readers left) hart c = Shared since (put readers hart false) (put left hart (Some c))
give_up (Exclusive owner at since left) hart c =
    if nat_lt at c
    then Shared (Some (record { hart = owner; count = c })) (λ other. false) nobody
    else Shared since (λ other. false) (put left owner (Some c))

-- the owner goes on as a reader from its count c
abbrev pub lower : Right → ℕ → ℕ → Right
lower (Shared since readers left) hart c = Shared since readers left
lower (Exclusive owner at since left) hart c =
    if nat_lt at c
    then Shared (Some (record { hart = owner; count = c })) (λ other. owner == other) nobody
    else Shared since (λ other. owner == other) left
