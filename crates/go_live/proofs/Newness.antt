-- A term that is later than all those of a store.
use Rattle.std.proofs.Common.{◌≡◌, ◌≢◌, ℕ, ◌<◌, ◌≤◌, Bool, true, false, not, List, map, length, get_or, refl, sym, ap, subst, ◌∙◌, inl, inr, arith}
use Rattle.std.specs.List.{Any}
use Rattle.std.proofs.lemmas.List.{length-map, get_or-map}
use Rattle.log_join.specs.Stores.{StoreView, IsLastTerm}
use Rattle.frame_content.specs.Tests.{same_guest}
use Rattle.log_join.proofs.Told.{guests_told}
use Rattle.ft_types.specs.Guests.{GuestParts}
use Rattle.go_live.specs.Quorums.{HasTerm, IsNew, IsOld}

pub is_later : (store : StoreView) (last term : ℕ) → IsLastTerm store last → last < term → (other : ℕ) → HasTerm store other → other < term
is_later store last term is less other has = elim has [
  | inl opened ↦ let within = is.openings other opened in omega (arith, less, within)
  | inr (key, same, here) ↦ let within = is.fragments key here in omega (arith, less, within, same)
]

-- and one that is not
pub is_earlier : (store : StoreView) (last term : ℕ) → IsLastTerm store last → 0 < term → term ≤ last →
    (other : ℕ) × (term ≤ other) × HasTerm store other
is_earlier store last term is some within = elim is.there [
  | inl none ↦ absurd (omega (arith, none, some, within))
  | inr here ↦ (last, within, here)
]

-- what holds of one that is made of an element holds of some of those made
pub any_made : {X Y : Type 0} (f : X → Y) (P : Y → Type 0) (xs : List X) (i : ℕ) (x : X) → i < length xs → x ≡ get_or xs i x → P (f x) → Any P (map f xs)
any_made f P xs i x within is holds =
    (i, f x, rw (length-map xs f) within, get_or-map f xs i x (f x) within ∙ ap f (sym is), holds)

-- what it says that two guests differ, or that they do not
pub differ : (a b : GuestParts) → not (same_guest a b) ≡ true → a ≢ b
differ a b told e = let no : false ≡ true = rw ((guests_told a b).1 e) at told in cc

pub agree : (a b : GuestParts) → not (same_guest a b) ≡ false → a ≡ b
agree a b told = of (same_guest a b) refl told
  where
    of : (t : Bool) → same_guest a b ≡ t → not t ≡ false → a ≡ b
    of true is clash = (guests_told a b).0 is
    of false is clash = let no : true ≡ false = clash in cc

-- a term that is new is not old
pub not_both : (stores : List StoreView) (term : ℕ) → IsNew stores term → IsOld stores term → ⊥
not_both stores term new (inl none) = let some = new.granted in omega (arith, some, none)
not_both stores term new (inr (k, store, within, is, (other, upto, has))) =
    let less = new.later k store within other (subst (λ (s : StoreView). HasTerm s other) (sym is) has) in omega (arith, upto, less)
