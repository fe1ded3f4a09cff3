-- Stores of frames, as contracts see them.
use Rattle.std.specs.Prelude.{◌≡◌, ◌≢◌, ◌≤◌, ◌+◌, ◌⊎◌, ◌↔◌, ℕ, Bool, true, false, List, count_by, Contains, Option, Some, None, refl}
use Rattle.std.specs.Ordering.{nat_cmp, ordering_then}
use Rattle.std.specs.declared.cmp.Ordering.{Ordering}
use Rattle.std.specs.List.Sorted.{IsStrictlySortedBy}
use Rattle.std.specs.Coded.{Coded, code_by, coded×, coded_option, coded_ℕ}
use Rattle.std.specs.FinMap as map
use Rattle.ft_types.specs.Guests.{GuestParts}
use Rattle.fragment_codec.specs.declared.types.Key.{Key}
use Rattle.fragment_codec.specs.declared.frame.Frame.{Frame}
use Rattle.fragment_codec.specs.declared.frame.Frame.TheVariants.{Log, Opening}
use Rattle.fragment_codec.specs.Rules.{FragmentParts, OpeningParts, IsFragment, IsOpening}
use Rattle.log_join.specs.Cells.{Cell, Absent, One, join_cell, cell_of}
use Rattle.frame_content.specs.Tests.{same_opening, same_fragment}
use Rattle.log_join.specs.machinery.Codes.{coded_guest, coded_key, coded_opening, coded_fragment}

-- by term, then by hart, then by place
abbrev pub key_cmp : Key → Key → Ordering
key_cmp a b = ordering_then (nat_cmp a.term b.term) (ordering_then (nat_cmp a.hart b.hart) (nat_cmp a.place b.place))

-- finite maps of what came, with None where contents clash
pub record StoreView : Type 0 where
  pub guest : GuestParts
  pub openings : map.FinMap nat_cmp (Option OpeningParts)  -- by term
  pub fragments : map.FinMap key_cmp (Option FragmentParts)

abbrev pub coded_store : Coded StoreView
coded_store =
    code_by (GuestParts × (map.FinMap nat_cmp (Option OpeningParts) × map.FinMap key_cmp (Option FragmentParts)))
    (coded× coded_guest (coded× (map.code coded_ℕ (coded_option coded_opening)) (map.code coded_key (coded_option coded_fragment))))
    (λ s. (s.guest, (s.openings, s.fragments)))
    (λ p. record { guest = p.0; openings = p.1.0; fragments = p.1.1 })
    (λ _. refl)

-- ---- what a store has at a key

abbrev pub opening_at : StoreView → ℕ → Cell OpeningParts
opening_at s term = cell_of (map.get s.openings term)

abbrev pub fragment_at : StoreView → Key → Cell FragmentParts
fragment_at s key = cell_of (map.get s.fragments key)

-- an opening of this guest's term, which keeps the rules
pub record IsOpeningOf (guest : GuestParts) (term : ℕ) (o : OpeningParts) : Type 0 where
  pub rules : IsOpening o
  pub same_guest : o.guest ≡ guest
  pub same_term : o.term ≡ term

-- the fragment of this guest's log at this key, which keeps the rules
pub record IsFragmentOf (guest : GuestParts) (key : Key) (f : FragmentParts) : Type 0 where
  pub rules : IsFragment f
  pub same_guest : f.guest ≡ guest
  pub same_key : f.key ≡ key

-- what every store keeps: each content is of its guest and stands at its key
pub record IsStore (s : StoreView) : Type 0 where
  pub openings : (term : ℕ) (o : OpeningParts) → opening_at s term ≡ One o → IsOpeningOf s.guest term o
  pub fragments : (key : Key) (f : FragmentParts) → fragment_at s key ≡ One f → IsFragmentOf s.guest key f

-- ---- joins

-- c is the join of a and b, key by key
pub record IsJoin (a b c : StoreView) : Type 0 where
  pub guest : c.guest ≡ a.guest
  pub openings : (term : ℕ) → opening_at c term ≡ join_cell same_opening (opening_at a term) (opening_at b term)
  pub fragments : (key : Key) → fragment_at c key ≡ join_cell same_fragment (fragment_at a key) (fragment_at b key)

-- the store to which nothing came
abbrev pub nothing : GuestParts → StoreView
nothing guest = record { guest = guest; openings = map.empty; fragments = map.empty }

abbrev pub guest_of : Frame → GuestParts
guest_of (Log f) = f.guest
guest_of (Opening o) = o.guest

-- the store of that one frame
abbrev pub alone : Frame → StoreView
alone (Log f) = record { guest = f.guest; openings = map.empty; fragments = map.insert map.empty f.key (Some f) }
alone (Opening o) = record { guest = o.guest; openings = map.insert map.empty o.term (Some o); fragments = map.empty }

-- ---- lists and numbers

-- the terms whose openings have one content, rising
pub record AreTerms (s : StoreView) (terms : List ℕ) : Type 0 where
  pub rising : IsStrictlySortedBy nat_cmp terms
  pub exact : (term : ℕ) → Contains terms term ↔ ((o : OpeningParts) × (opening_at s term ≡ One o))

-- the keys of the fragments with one content, rising
pub record AreKeys (s : StoreView) (keys : List Key) : Type 0 where
  pub rising : IsStrictlySortedBy key_cmp keys
  pub exact : (key : Key) → Contains keys key ↔ ((f : FragmentParts) × (fragment_at s key ≡ One f))

abbrev pub is_clash : {X : Type 0} → Option X → Bool
is_clash None = true
is_clash (Some x) = false

-- how many keys clash, of openings and of fragments
abbrev pub clashes_of : StoreView → ℕ
clashes_of s = count_by is_clash (map.values s.openings) + count_by is_clash (map.values s.fragments)

-- the greatest term of any key, clashes too, and 0 where there is none
pub record IsLastTerm (s : StoreView) (last : ℕ) : Type 0 where
  pub openings : (term : ℕ) → opening_at s term ≢ Absent → term ≤ last
  pub fragments : (key : Key) → fragment_at s key ≢ Absent → key.term ≤ last
  pub there : (last ≡ 0) ⊎ ((opening_at s last ≢ Absent) ⊎ ((key : Key) × (key.term ≡ last) × (fragment_at s key ≢ Absent)))
