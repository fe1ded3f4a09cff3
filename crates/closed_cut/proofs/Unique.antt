-- A store has one position.
use Rattle.std.proofs.Common.{◌≡◌, inl, inr, ℕ, zero, suc, ◌<◌, ◌≤◌, Option, Some, None, refl, sym, ap, subst, ◌∙◌, arith}
use Rattle.std.proofs.lemmas.Bool.{cases_lt}
use Rattle.ft_types.specs.Counts.{count_at}
use Rattle.fragment_codec.specs.Rules.{FragmentParts, OpeningParts}
use Rattle.log_join.specs.Cells.{Cell, One}
use Rattle.log_join.specs.Stores.{StoreView, IsStore, opening_at}
use Rattle.closed_cut.specs.Position.{pieces_of, Goes, Avail, Fits, IsReached, base_of, InChain, Self, Up, Stops, Last, Short, On, IsPosition, NoTop}
use Rattle.closed_cut.specs.Position.{Top}
use Rattle.ft_types.specs.declared.position.Position.{Position}
use Rattle.closed_cut.specs.Unique.{IsSamePosition, OnePosition, OrderKeepsThePosition}
use Rattle.log_join.proofs.Told.{openings_told, fragments_told}
use Rattle.log_join.proofs.Cells.{cells_join}
use Rattle.log_join.proofs.Gathered.{one_gathered}
use Rattle.closed_cut.proofs.Walking.{one_same}
use Rattle.closed_cut.proofs.Chains.{term_above}
use Rattle.closed_cut.proofs.Reach.{cut_short}

goes_same : (pieces : ℕ → Cell FragmentParts) (start place a b : ℕ) → Goes pieces start place a → Goes pieces start place b → a ≡ b
goes_same pieces start zero a b x y = x ∙ sym y
goes_same pieces start (suc n) a b (x, gx, isx, ex) (y, gy, isy, ey) = ex ∙ (ap (λ f. f.to) (one_same isx isy) ∙ sym ey)

module _ (s : StoreView) where
  not_more : (term : ℕ) (base : ℕ → ℕ) (a b : Avail s term base) (hart : ℕ) → b.places hart ≤ a.places hart
  not_more term base a b hart =
      elim (cases_lt (a.places hart) (b.places hart)) [
        | inl less ↦
            let (x, g, is) = cut_short (pieces_of s term hart) (base hart) (b.places hart) (a.places hart) (b.end hart) (b.goes hart) less in
            absurd (a.stops hart x is (goes_same (pieces_of s term hart) (base hart) (a.places hart) x.from (a.end hart) g (a.goes hart)))
        | inr fine ↦ fine
      ]

  pub same_places : (term : ℕ) (base : ℕ → ℕ) (a b : Avail s term base) (hart : ℕ) → a.places hart ≡ b.places hart
  same_places term base a b hart =
      let l : b.places hart ≤ a.places hart = not_more term base a b hart in
      let m : a.places hart ≤ b.places hart = not_more term base b a hart in
      omega arith

  pub one_end : (term : ℕ) (base : ℕ → ℕ) (a b : Avail s term base) (hart : ℕ) → a.end hart ≡ b.end hart
  one_end term base a b hart =
      goes_same (pieces_of s term hart) (base hart) (b.places hart) (a.end hart) (b.end hart)
      (subst (λ n. Goes (pieces_of s term hart) (base hart) n (a.end hart)) (same_places term base a b hart) (a.goes hart)) (b.goes hart)

  other_avail : (term : ℕ) (base : ℕ → ℕ) (next : Option (ℕ → ℕ)) (a b : Avail s term base) (cut : ℕ → ℕ) → Fits s term base next a cut →
      Fits s term base next b cut
  other_avail term base next a b cut f =
      record {
        above = f.above;
        within = λ hart. subst (λ n. cut hart ≤ n) (one_end term base a b hart) (f.within hart);
        before_next = f.before_next;
        closed = λ hart place x e under. f.closed hart place x e (subst (λ n. place < n) (sym (same_places term base a b hart)) under);
      }

  one_reached : (term : ℕ) (base : ℕ → ℕ) (next : Option (ℕ → ℕ)) (x y : ℕ → ℕ) → IsReached s term base next x → IsReached s term base next y → (hart : ℕ) →
      x hart ≡ y hart
  one_reached term base next x y a b hart =
      let l : x hart ≤ y hart = b.greatest x (other_avail term base next a.avail b.avail x a.fits) hart in
      let m : y hart ≤ x hart = a.greatest y (other_avail term base next b.avail a.avail y b.fits) hart in
      omega arith

  module _ (rules : IsStore s) where
    ordered : (term : ℕ) (o : OpeningParts) → opening_at s term ≡ One o → o.parent < term
    ordered term o one = (term_above s term o rules one).0

    chain_le : (term : ℕ) {top : ℕ} → InChain s term top → term ≤ top
    chain_le term (Self e) = omega arith
    chain_le term (Up {top = top} o one chain) = let a : o.parent < top = ordered top o one in let b : term ≤ o.parent = chain_le term chain in omega arith

    one_child : (c d : ℕ) (p q : OpeningParts) → opening_at s c ≡ One p → opening_at s d ≡ One q → p.parent ≡ q.parent → {top : ℕ} → InChain s c top →
        InChain s d top → c ≡ d
    one_child c d p q is_c is_d same (Self e) (Self f) = sym e ∙ f
    one_child c d p q is_c is_d same (Self {top = top} e) (Up o one chain) =
        let g : o ≡ p = one_same one (ap (opening_at s) e ∙ is_c) in
        let h : o.parent ≡ p.parent = ap (λ o. o.parent) g in
        let k : d ≤ o.parent = chain_le d chain in
        let l : q.parent < d = ordered d q is_d in
        absurd (omega arith)
    one_child c d p q is_c is_d same (Up {top = top} o one chain) (Self f) =
        let g : o ≡ q = one_same one (ap (opening_at s) f ∙ is_d) in
        let h : o.parent ≡ q.parent = ap (λ o. o.parent) g in
        let k : c ≤ o.parent = chain_le c chain in
        let l : p.parent < c = ordered c p is_c in
        absurd (omega arith)
    one_child c d p q is_c is_d same (Up o one chain) (Up n two other) =
        one_child c d p q is_c is_d same chain (subst (λ (o : OpeningParts). InChain s d o.parent) (one_same two one) other)

    no_next : (now top next : ℕ) (n : OpeningParts) → now ≡ top → opening_at s next ≡ One n → n.parent ≡ now → InChain s next top → ⊥
    no_next now top next n is_top two parent chain =
        let a : n.parent < next = ordered next n two in let b : next ≤ top = chain_le next chain in absurd (omega arith)

    one_next : (now top c d : ℕ) (p q : OpeningParts) → opening_at s c ≡ One p → opening_at s d ≡ One q → p.parent ≡ now → q.parent ≡ now → InChain s c top →
        InChain s d top →
        record { 0 : c ≡ d; 1 : p ≡ q }
    one_next now top c d p q is_c is_d up_c up_d in_c in_d =
        let e : c ≡ d = one_child c d p q is_c is_d (up_c ∙ sym up_d) in_c in_d in
        (e, one_same (sym (ap (opening_at s) e) ∙ is_c) is_d)

    same_reached : (now : ℕ) (o r : OpeningParts) (p q : Option (ℕ → ℕ)) (x y : ℕ → ℕ) → opening_at s now ≡ One o → opening_at s now ≡ One r → p ≡ q →
        IsReached s now (base_of o) p x → IsReached s now (base_of r) q y →
        (hart : ℕ) → x hart ≡ y hart
    same_reached now o r p q x y one two e a b =
        one_reached now (base_of r) q x y (subst (λ (o : OpeningParts). IsReached s now (base_of o) q x) (one_same one two)
        (subst (λ p. IsReached s now (base_of o) p x) e a)) b

    one_stop : (top t u : ℕ) (x y : ℕ → ℕ) {now : ℕ} → Stops s top t x now → Stops s top u y now → record { 0 : t ≡ u; 1 : (hart : ℕ) → x hart ≡ y hart }
    one_stop top t u x y (Last {now = now} o one is_top is a) (Last r two is_top2 is2 b) = (sym is ∙ is2, same_reached now o r None None x y one two refl a b)
    one_stop top t u x y (Last {now = now} o one is_top is a) (Short r n next two three parent chain is2 b ne) = absurd
        (no_next now top next n is_top three parent chain)
    one_stop top t u x y (Last {now = now} o one is_top is a) (On r n next all two three parent chain b e stops) = absurd
        (no_next now top next n is_top three parent chain)
    one_stop top t u x y (Short {now = now} o n next one two parent chain is a ne) (Last r three is_top is2 b) = absurd
        (no_next now top next n is_top two parent chain)
    one_stop top t u x y (Short {now = now} o n next one two parent chain is a ne) (Short r m other three four up chain2 is2 b ne2) =
        let k = one_next now top next other n m two four parent up chain chain2 in
        (sym is ∙ is2, same_reached now o r (Some (base_of n)) (Some (base_of m)) x y one three (ap (λ (n : OpeningParts). Some (base_of n)) k.1) a b)
    one_stop top t u x y (Short {now = now} o n next one two parent chain is a ne) (On r m other all three four up chain2 b e stops) =
        let k = one_next now top next other n m two four parent up chain chain2 in
        let f : (hart : ℕ) → x hart ≡ all hart = same_reached now o r (Some (base_of n)) (Some (base_of m)) x all one three
        (ap (λ (n : OpeningParts). Some (base_of n)) k.1) a b in
        absurd (ne (λ hart. f hart ∙ (e hart ∙ sym (ap (λ (n : OpeningParts). base_of n hart) k.1))))
    one_stop top t u x y (On {now = now} o n next all one two parent chain a e stops) (Last r three is_top is2 b) = absurd
        (no_next now top next n is_top two parent chain)
    one_stop top t u x y (On {now = now} o n next all one two parent chain a e stops) (Short r m other three four up chain2 is2 b ne) =
        let k = one_next now top next other n m two four parent up chain chain2 in
        let f : (hart : ℕ) → all hart ≡ y hart = same_reached now o r (Some (base_of n)) (Some (base_of m)) all y one three
        (ap (λ (n : OpeningParts). Some (base_of n)) k.1) a b in
        absurd (ne (λ hart. sym (f hart) ∙ (e hart ∙ ap (λ (n : OpeningParts). base_of n hart) k.1)))
    one_stop top t u x y (On {now = now} o n next all one two parent chain a e stops) (On r m other all2 three four up chain2 b f stops2) =
        let k = one_next now top next other n m two four parent up chain chain2 in
        one_stop top t u x y stops (subst (λ n. Stops s top u y n) (sym k.0) stops2)

    one_position : (p q : Position) → IsPosition s p → IsPosition s q → IsSamePosition p q
    one_position p q (NoTop none a b c) (NoTop other d e f) = record { term = a ∙ sym d; counts = λ hart. b hart ∙ sym (e hart); top = c ∙ sym f }
    one_position p q (NoTop none a b c) (Top k) = absurd (none q.top k.top.sound)
    one_position p q (Top k) (NoTop none a b c) = absurd (none p.top k.top.sound)
    one_position p q (Top k) (Top l) =
        let le : p.top ≤ q.top = l.top.greatest p.top k.top.sound in
        let ge : q.top ≤ p.top = k.top.greatest q.top l.top.sound in
        let top : p.top ≡ q.top = omega arith in
        let root : k.root ≡ l.root = one_child k.root l.root k.opening l.opening k.opens l.opens (k.first ∙ sym l.first)
        (subst (λ n. InChain s k.root n) top k.in_chain) l.in_chain in
        let e = one_stop q.top p.term q.term (count_at p.counts) (count_at q.counts) (subst (λ n. Stops s q.top p.term (count_at p.counts) n) root
        (subst (λ n. Stops s n p.term (count_at p.counts) k.root) top k.stops)) l.stops in
        record { term = e.0; counts = e.1; top = top }

pub one : OnePosition
one s rules p q a b = one_position s rules p q a b

pub same_frames : OrderKeepsThePosition
same_frames guest first second a b one two frames rules p q at_a at_b =
    let same : a ≡ b = one_gathered (cells_join openings_told) (cells_join fragments_told) guest first second a b one two frames in
    one_position a rules p q at_a (subst (λ (s : StoreView). IsPosition s q) (sym same) at_b)
