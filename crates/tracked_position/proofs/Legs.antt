-- The walk from term to term.
use Rattle.std.proofs.Common.{◌≡◌, ◌⊎◌, inl, inr, ℕ, ◌<◌, ◌≤◌, List, length, Option, Some, None, IfSome, IfNone, refl, sym, ap, subst, ◌∙◌, arith}
use Rattle.std.specs.Option.{option_map}
use Rattle.ft_types.specs.Counts.{count_at, IsWithin}
use Rattle.fragment_codec.specs.Rules.{OpeningParts}
use Rattle.log_join.specs.Cells.{One}
use Rattle.log_join.specs.Stores.{StoreView, IsStore, opening_at}
use Rattle.closed_cut.specs.Chain.{Sound}
use Rattle.closed_cut.specs.Position.{base_of, IsReached, InChain, Self, Up, Stops, Last, Short, On}
use Rattle.closed_cut.proofs.Walking.{one_same}
use Rattle.closed_cut.proofs.Reach.{base_many}
use Rattle.closed_cut.proofs.Chains.{term_above, sound_parent, chain_up}
use Rattle.tracked_position.specs.machinery.Cuts.{IsCutOf, IsGreatestCut}
use Rattle.tracked_position.specs.machinery.Legs.{IsChild, IsNext}
use Rattle.tracked_position.proofs.Cuts.{base_cut}
use Rattle.tracked_position.proofs.Growth.{from_greatest}

-- ---- the search for the next term, from the top down

-- a term of the chain, such that the child is not above it
pub record IsAbove (s : StoreView) (top term now : ℕ) : Type 0 where
  pub in_chain : InChain s now top
  pub child : (o : OpeningParts) → IsChild s top term o → InChain s o.term now

pub from_top : (s : StoreView) (top term : ℕ) → IsAbove s top term top
from_top s top term = record { in_chain = Self refl; child = λ o child. child.in_chain }

below : (s : StoreView) (now term : ℕ) (p o : OpeningParts) → opening_at s now ≡ One p → opening_at s o.term ≡ One o → o.parent ≡ term → (p.parent ≡ term → ⊥) →
    InChain s o.term now → InChain s o.term p.parent
below s now term p o one two parent other (Self e) =
    absurd (other (ap (λ (p : OpeningParts). p.parent) (one_same one (ap (opening_at s) e ∙ two)) ∙ parent))
below s now term p o one two parent other (Up q three chain) = subst (λ (q : OpeningParts). InChain s o.term q.parent) (one_same three one) chain

pub next_down : (s : StoreView) (top term now : ℕ) (p : OpeningParts) → opening_at s now ≡ One p → (p.parent ≡ term → ⊥) → IsAbove s top term now →
    IsAbove s top term p.parent
next_down s top term now p one other above =
    record {
      in_chain = chain_up s now p one above.in_chain;
      child = λ o child. below s now term p o one child.opens child.parent other (above.child o child);
    }

no_opening : (s : StoreView) (now : ℕ) (o : OpeningParts) → ((p : OpeningParts) → opening_at s now ≡ One p → ⊥) → opening_at s o.term ≡ One o →
    InChain s o.term now → ⊥
no_opening s now o none one (Self e) = none o (ap (opening_at s) e ∙ one)
no_opening s now o none one (Up q two chain) = none q two

pub none_below : (s : StoreView) (top term now : ℕ) → ((p : OpeningParts) → opening_at s now ≡ One p → ⊥) → IsAbove s top term now → (o : OpeningParts) →
    IsChild s top term o → ⊥
none_below s top term now none above o child = no_opening s now o none child.opens (above.child o child)

pub found_child : (s : StoreView) → IsStore s → (top term now : ℕ) (p : OpeningParts) → opening_at s now ≡ One p → p.parent ≡ term → IsAbove s top term now →
    IsChild s top term p
found_child s rules top term now p one parent above =
    let same : p.term ≡ now = (rules.openings now p one).same_term in
    record {
      opens = ap (opening_at s) same ∙ one;
      parent = parent;
      in_chain = subst (λ t. InChain s t top) (sym same) above.in_chain;
    }

-- ---- terms of a chain

child_or_top : (s : StoreView) → IsStore s → {term top : ℕ} → InChain s term top → (term ≡ top) ⊎ ((o : OpeningParts) × IsChild s top term o)
child_or_top s rules (Self e) = inl (sym e)
child_or_top s rules (Up {top = top} o one chain) =
    let is : o.term ≡ top = (rules.openings top o one).same_term in
    elim (child_or_top s rules chain) [
      | inl same ↦ inr (o, record { opens = ap (opening_at s) is ∙ one; parent = sym same; in_chain = Self (sym is) })
      | inr (p, child) ↦ inr (p, record { opens = child.opens; parent = child.parent; in_chain = Up o one child.in_chain })
    ]

pub chain_bound : (s : StoreView) → IsStore s → (term : ℕ) {top : ℕ} → InChain s term top → term ≤ top
chain_bound s rules term (Self e) = omega arith
chain_bound s rules term (Up {top = top} o one chain) =
    let a : o.parent < top = (term_above s top o rules one).0 in
    let b : term ≤ o.parent = chain_bound s rules term chain in omega arith

chain_sound : (s : StoreView) → IsStore s → (term : ℕ) {top : ℕ} → 0 < term → InChain s term top → Sound s top → Sound s term
chain_sound s rules term some (Self e) sound = subst (Sound s) e sound
chain_sound s rules term some (Up {top = top} o one chain) sound =
    let le : term ≤ o.parent = chain_bound s rules term chain in
    chain_sound s rules term some chain (sound_parent s top o one (omega arith) sound).sound

-- its base is not below that of the term before it
child_within : (s : StoreView) → IsStore s → (top term : ℕ) (o c : OpeningParts) → opening_at s term ≡ One o → IsChild s top term c → Sound s top →
    IsWithin o.base c.base
child_within s rules top term o c one child sound =
    let some : 0 < term = (term_above s term o rules one).1 in
    let up : 0 < c.term = (term_above s c.term c rules child.opens).1 in
    let parent : c.parent ≡ term = child.parent in
    let h = sound_parent s c.term c child.opens (omega arith) (chain_sound s rules c.term up child.in_chain sound) in
    subst (λ (p : OpeningParts). IsWithin p.base c.base) (one_same (ap (opening_at s) (sym parent) ∙ h.opens) one) h.within

-- ---- what was found of the next term

pub next_is : {X : Type 0} (parts : X → OpeningParts) (s : StoreView) (top term : ℕ) (next : Option X) (limit : Option (List ℕ)) →
    IfSome next (λ o. limit ≡ Some (parts o).base) → IfNone next (limit ≡ None) → IfSome next (λ o. IsChild s top term (parts o)) →
    IfNone next ((o : OpeningParts) → IsChild s top term o → ⊥) → IsNext s top term limit
next_is parts s top term None limit some none child other = subst (IsNext s top term) (sym none) other
next_is parts s top term (Some o) limit some none child other = subst (IsNext s top term) (sym some) (parts o, child, refl)

pub next_many : (s : StoreView) → IsStore s → (top term : ℕ) (limit : Option (List ℕ)) → IsNext s top term limit → (x : List ℕ) → limit ≡ Some x →
    length x ≡ s.guest.harts
next_many s rules top term None next x is = cc
next_many s rules top term (Some base) (o, child, e) x is =
    let same : base ≡ x = cc in ap length (sym same) ∙ (ap length (sym e) ∙ base_many s o rules child.opens)

-- ---- one term of the walk

module _ (s : StoreView) (rules : IsStore s) (top : ℕ) (o : OpeningParts) (opens : opening_at s o.term ≡ One o) where
  -- the walk of a term begins at its base
  pub leg_start : Sound s top → (limit : Option (List ℕ)) → IsNext s top o.term limit → IsCutOf s o.term (base_of o) (option_map count_at limit)
      (count_at o.base)
  leg_start sound None next = base_cut s rules o.term (base_of o) None tt
  leg_start sound (Some base) (c, child, e) =
      base_cut s rules o.term (base_of o) (Some (count_at base))
      (subst (λ (b : List ℕ). IsWithin o.base b) e (child_within s rules top o.term o c opens child sound))

  -- it ends in the last one
  pub leg_last : (cut : ℕ → ℕ) → InChain s o.term top → ((c : OpeningParts) → IsChild s top o.term c → ⊥) → IsGreatestCut s o.term (base_of o) None cut →
      Stops s top o.term cut o.term
  leg_last cut chain none greatest =
      elim (child_or_top s rules chain) [
        | inl same ↦ Last o opens same refl (from_greatest s rules o.term (base_of o) None cut greatest)
        | inr (c, child) ↦ absurd (none c child)
      ]

  module _ (c : OpeningParts) (child : IsChild s top o.term c) (cut : ℕ → ℕ) (greatest : IsGreatestCut s o.term (base_of o) (Some (base_of c)) cut) where
    reached : IsReached s o.term (base_of o) (Some (base_of c)) cut
    reached = from_greatest s rules o.term (base_of o) (Some (base_of c)) cut greatest

    -- or where a hart is short of the next base
    pub leg_short : (((hart : ℕ) → cut hart ≡ base_of c hart) → ⊥) → Stops s top o.term cut o.term
    leg_short ne = Short o c c.term opens child.opens child.parent child.in_chain refl reached ne

    -- and goes on where none is
    pub leg_on : (to : ℕ) (new : ℕ → ℕ) → ((hart : ℕ) → base_of c hart ≤ cut hart) → Stops s top to new c.term → Stops s top to new o.term
    leg_on to new within rest =
        On o c c.term cut opens child.opens child.parent child.in_chain reached
        (λ hart. let le : cut hart ≤ base_of c hart = reached.fits.before_next hart in let ge : base_of c hart ≤ cut hart = within hart in omega arith) rest
