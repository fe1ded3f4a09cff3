-- What the maps of a store hold, and how it is seen: private words.
use Rattle.std.specs.Prelude.{◌≡◌, ℕ, Bool, true, false, not, is_some, ◌&&◌, List, [], ◌∷◌, map, Option, Some, None, if◌then◌else◌}
use Rattle.std.specs.List.{list_any}
use Rattle.std.specs.Option.{option_or}
use Rattle.std.specs.Ordering.{nat_cmp, eq_by_cmp}
use Rattle.std.specs.declared.cmp.Ordering.{Ordering}
use Rattle.std.specs.BTreeMap.{BTreeMap, get}
use Rattle.std.specs.FinMap as finite
use Rattle.ft_types.specs.Guests.{GuestParts}
use Rattle.fragment_codec.specs.declared.frame.Frame.{Frame}
use Rattle.fragment_codec.specs.declared.frame.Frame.TheVariants.{Log, Opening}
use Rattle.fragment_codec.specs.Rules.{FragmentParts, OpeningParts}
use Rattle.log_join.specs.declared.answers.Put.{Put}
use Rattle.log_join.specs.declared.answers.Put.TheVariants.{New, Same, Clash as Clashes}
use Rattle.log_join.specs.declared.answers.Found.{Found}
use Rattle.log_join.specs.declared.answers.Found.TheVariants.{Absent as FindsNone, One as FindsOne, Clash as FindsClash}
use Rattle.frame_content.specs.declared.content.Content.{Content}
use Rattle.frame_content.specs.declared.content.Content.TheVariants.{One, Clash}
use Rattle.log_join.specs.declared.shelves.Shelves.{Shelves}
use Rattle.frame_content.specs.machinery.Contents.{holds, joined}
use Rattle.log_join.specs.Stores.{StoreView, key_cmp, IsOpeningOf, IsFragmentOf}
use Rattle.log_join.specs.machinery.Places.{Place, key_of, place_cmp}

-- ---- joins

-- what is here, joined with what is there where both are there
abbrev pub marked : Option Content → Option Content → Option Content
marked None b = None
marked (Some a) None = Some a
marked (Some a) (Some b) = Some (joined a b)

-- what is there comes here, where it is asked for
abbrev pub copied : Bool → Option Content → Option Content → Option Content
copied asked here there = if asked then option_or there here else here

-- what is here and what is there, joined
abbrev pub met : Option Content → Option Content → Option Content
met here there = marked (copied (is_some there && not (is_some here)) here there) there

-- what becomes of a content when a frame comes
abbrev pub taken : Option Content → Frame → Content
taken None frame = One frame
taken (Some a) frame = joined a (One frame)

-- the answer to a frame
abbrev pub put_answer : Option Content → Frame → Put
put_answer None frame = New
put_answer (Some a) frame = if holds a frame then Same else Clashes

-- the key is one of these
abbrev pub is_among : {K : Type 0} → (K → K → Ordering) → List K → K → Bool
is_among cmp keys q = list_any (λ k. eq_by_cmp cmp k q) keys

-- ---- the view

abbrev pub opening_part : Frame → Option OpeningParts
opening_part (Opening o) = Some o
opening_part (Log f) = None

abbrev pub fragment_part : Frame → Option FragmentParts
fragment_part (Log f) = Some f
fragment_part (Opening o) = None

-- a content as the value of a finite map, which is None where contents clash
abbrev pub content_of : {X : Type 0} → (Frame → Option X) → Content → Option X
content_of part (One frame) = part frame
content_of part Clash = None

-- the finite map that a map of contents is seen as
abbrev pub shown : {K L X : Type 0} → (cmp : L → L → Ordering) → (K → L) → (Frame → Option X) → BTreeMap K Content → finite.FinMap cmp (Option X)
shown {K} {L} {X} cmp key part m = finite.from_entries (map {B = L × Option X} (λ e. (key e.0, content_of part e.1)) m.entries)

-- it is one frame
abbrev pub is_one : Option Content → Bool
is_one None = false
is_one (Some (One frame)) = true
is_one (Some Clash) = false

-- the keys at which there is one frame
abbrev pub listed : {K L : Type 0} → (K → L) → List (K × Content) → List L
listed key [] = []
listed key (e ∷ es) = if is_one (Some e.1) then key e.0 ∷ listed key es else listed key es

-- ---- what is kept

-- what is there, if it is one frame, is of that kind and has P
abbrev pub FitsAt : {X : Type 0} → (Frame → Option X) → (X → Type 0) → Option Content → Type 0
FitsAt part P None = Unit {0}
FitsAt part P (Some Clash) = Unit {0}
FitsAt {X} part P (Some (One frame)) = (x : X) × (part frame ≡ Some x) × P x

-- each opening and each fragment stands at its key
pub record Fits (guest : GuestParts) (s : Shelves) : Type 0 where
  pub terms : (term : ℕ) → FitsAt opening_part (IsOpeningOf guest term) (get nat_cmp s.openings term)
  pub places : (place : Place) → FitsAt fragment_part (IsFragmentOf guest (key_of place)) (get place_cmp s.fragments place)

abbrev pub view_of : GuestParts → Shelves → StoreView
view_of guest s = record {
  guest = guest;
  openings = shown nat_cmp (λ term. term) opening_part s.openings;
  fragments = shown key_cmp key_of fragment_part s.fragments;
}

-- what was found tells what is there
abbrev pub TellsContent : Found → Option Content → Type 0
TellsContent FindsNone content = content ≡ None
TellsContent (FindsOne frame) content = content ≡ Some (One frame.now)
TellsContent FindsClash content = content ≡ Some Clash

-- nothing stands at these keys
pub record AreFree (s : Shelves) (terms : List ℕ) (places : List Place) : Type 0 where
  pub free_terms : (term : ℕ) → is_among nat_cmp terms term ≡ true → get nat_cmp s.openings term ≡ None
  pub free_places : (place : Place) → is_among place_cmp places place ≡ true → get place_cmp s.fragments place ≡ None

-- what stands there at these keys came here
pub record AreCopied (old other : Shelves) (terms : List ℕ) (places : List Place) (new : Shelves) : Type 0 where
  pub all_terms : (term : ℕ) → get nat_cmp new.openings term ≡ copied (is_among nat_cmp terms term) (get nat_cmp old.openings term)
      (get nat_cmp other.openings term)
  pub all_places : (place : Place) → get place_cmp new.fragments place ≡ copied (is_among place_cmp places place) (get place_cmp old.fragments place)
      (get place_cmp other.fragments place)

-- nothing changed, at any key
pub record IsKept (old new : Shelves) : Type 0 where
  pub terms : (term : ℕ) → get nat_cmp new.openings term ≡ get nat_cmp old.openings term
  pub places : (place : Place) → get place_cmp new.fragments place ≡ get place_cmp old.fragments place

-- at each key, what was here and what is there, joined
pub record IsMet (old other new : Shelves) : Type 0 where
  pub terms : (term : ℕ) → get nat_cmp new.openings term ≡ met (get nat_cmp old.openings term) (get nat_cmp other.openings term)
  pub places : (place : Place) → get place_cmp new.fragments place ≡ met (get place_cmp old.fragments place) (get place_cmp other.fragments place)
