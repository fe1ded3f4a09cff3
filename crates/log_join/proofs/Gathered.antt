-- Stores that frames came to, in whatever order and however often.
use Rattle.std.proofs.Common.{◌≡◌, refl, sym, ap, subst, ◌∙◌, ℕ, zero, suc, List, [], ◌∷◌, ◌++◌, map, Bool, true, false, cond, Contains, inl, inr, ◌⊎◌, arith}
use Rattle.std.proofs.Common.{append_assoc, append-nil}
use Rattle.std.proofs.lemmas.List.{map-append}
use Rattle.std.specs.Ordering.{nat_cmp, eq_by_cmp}
use Rattle.std.specs.declared.cmp.Ordering.{Ordering}
use Rattle.std.specs.declared.cmp.Ordering.TheVariants.{Equal}
use Rattle.std.specs.Cmp.{IsTotalOrder, nat_cmp_total, Equal-is}
use Rattle.std.proofs.lemmas.Map.Lookups.{exact_unsigned}
use Rattle.std.specs.Prelude.{Some, if◌then◌else◌}
use Rattle.std.specs.FinMap as finite
use Rattle.ft_types.specs.Guests.{GuestParts}
use Rattle.fragment_codec.specs.declared.types.Key.{Key}
use Rattle.fragment_codec.specs.declared.frame.Frame.{Frame}
use Rattle.fragment_codec.specs.declared.frame.Frame.TheVariants.{Log, Opening}
use Rattle.fragment_codec.specs.Rules.{FragmentParts, OpeningParts}
use Rattle.log_join.specs.Cells.{Cell, Absent, One, Clash, join_cell, cell_of}
use Rattle.frame_content.specs.Tests.{same_opening, same_fragment}
use Rattle.log_join.specs.Stores.{StoreView, key_cmp, opening_at, fragment_at, IsJoin, nothing, alone}
use Rattle.log_join.specs.Laws.{CellsJoin, OrderMakesNoDifference, ComeGathers, OnlyGathered, GatheredIsStore}
use Rattle.log_join.specs.Coming.{Come, Gathers, Nothing, Put, Join, SameFrames}
use Rattle.log_join.proofs.Joins.{one_store, keys_total, keys_exact}

-- ---- cells of one key, joined

absent_not_one : {X : Type 0} (x : X) → Absent ≡ One x → ⊥
absent_not_one x e = cc

module _ {X : Type 0} (same : X → X → Bool) (laws : CellsJoin same) where
  abbrev pub all_of : List (Cell X) → Cell X
  all_of [] = Absent
  all_of (c ∷ cs) = join_cell same c (all_of cs)

  pub all_of-append : (xs ys : List (Cell X)) → all_of (xs ++ ys) ≡ join_cell same (all_of xs) (all_of ys)
  all_of-append [] ys = sym (laws.unit (all_of ys))
  all_of-append (x ∷ xs) ys = ap (join_cell same x) (all_of-append xs ys) ∙ sym (laws.associative x (all_of xs) (all_of ys))

  -- what a frame brings is in the join of all
  absorbed : (bring : Frame → Cell X) (frames : List Frame) (frame : Frame) → Contains frames frame →
      join_cell same (bring frame) (all_of (map bring frames)) ≡ all_of (map bring frames)
  absorbed bring [] frame in_it = absurd (omega (arith, in_it.1))
  absorbed bring (first ∷ frames) frame (zero, lt, is) =
      let rest = all_of (map bring frames) in
      ap (λ (f : Frame). join_cell same (bring f) (join_cell same (bring first) rest)) (sym is)
      ∙ sym (laws.associative (bring first) (bring first) rest)
      ∙ ap (λ c. join_cell same c rest) (laws.idempotent (bring first))
  absorbed bring (first ∷ frames) frame (suc k, lt, is) =
      let rest = all_of (map bring frames) in
      sym (laws.associative (bring frame) (bring first) rest)
      ∙ ap (λ c. join_cell same c rest) (laws.commutative (bring frame) (bring first))
      ∙ laws.associative (bring first) (bring frame) rest
      ∙ ap (join_cell same (bring first)) (absorbed bring frames frame (k, omega (arith, lt), is))

  all_absorbed : (bring : Frame → Cell X) (first second : List Frame) → ((frame : Frame) → Contains first frame → Contains second frame) →
      join_cell same (all_of (map bring first)) (all_of (map bring second)) ≡ all_of (map bring second)
  all_absorbed bring [] second within = laws.unit (all_of (map bring second))
  all_absorbed bring (frame ∷ first) second within =
      laws.associative (bring frame) (all_of (map bring first)) (all_of (map bring second))
      ∙ ap (join_cell same (bring frame)) (all_absorbed bring first second (λ f c. within f (suc c.0, omega (arith, c.1), c.2)))
      ∙ absorbed bring second frame (within frame (0, omega arith, refl))

  pub same_all : (bring : Frame → Cell X) (first second : List Frame) → SameFrames first second →
      all_of (map bring first) ≡ all_of (map bring second)
  same_all bring first second frames =
      sym (all_absorbed bring second first (λ f. (frames f).1))
      ∙ laws.commutative (all_of (map bring second)) (all_of (map bring first))
      ∙ all_absorbed bring first second (λ f. (frames f).0)

  -- a cell that follows joins, of a store that frames were gathered in
  pub gathered_cell : (guest : GuestParts) (at : StoreView → Cell X) → at (nothing guest) ≡ Absent →
      ((a b c : StoreView) → IsJoin a b c → at c ≡ join_cell same (at a) (at b)) → (frames : List Frame) (store : StoreView) → Gathers guest frames store →
      at store ≡ all_of (map (λ f. at (alone f)) frames)
  gathered_cell guest at empty joins frames store (Nothing none is) = ap at is ∙ empty ∙ sym (ap (λ fs. all_of (map (λ f. at (alone f)) fs)) none)
  gathered_cell guest at empty joins frames store (Put earlier frame old before joined are) =
      let bring = λ (f : Frame). at (alone f) in
      let last : all_of (map bring (frame ∷ [])) ≡ bring frame = laws.commutative (bring frame) Absent ∙ laws.unit (bring frame) in
      joins old (alone frame) store joined
      ∙ ap (λ c. join_cell same c (bring frame)) (gathered_cell guest at empty joins earlier old before)
      ∙ ap (join_cell same (all_of (map bring earlier))) (sym last)
      ∙ sym (all_of-append (map bring earlier) (map bring (frame ∷ [])))
      ∙ ap all_of (sym (map-append bring earlier (frame ∷ [])))
      ∙ ap (λ fs. all_of (map bring fs)) (sym are)
  gathered_cell guest at empty joins frames store (Join first second a b one two joined are) =
      let bring = λ (f : Frame). at (alone f) in
      joins a b store joined
      ∙ ap (λ c. join_cell same c (at b)) (gathered_cell guest at empty joins first a one)
      ∙ ap (join_cell same (all_of (map bring first))) (gathered_cell guest at empty joins second b two)
      ∙ sym (all_of-append (map bring first) (map bring second))
      ∙ ap all_of (sym (map-append bring first second))
      ∙ ap (λ fs. all_of (map bring fs)) (sym are)

  pub same_cell : (guest : GuestParts) (at : StoreView → Cell X) → at (nothing guest) ≡ Absent →
      ((a b c : StoreView) → IsJoin a b c → at c ≡ join_cell same (at a) (at b)) → (first second : List Frame) (a b : StoreView) →
      Gathers guest first a → Gathers guest second b → SameFrames first second → at a ≡ at b
  same_cell guest at empty joins first second a b one two frames =
      gathered_cell guest at empty joins first a one
      ∙ same_all (λ f. at (alone f)) first second frames
      ∙ sym (gathered_cell guest at empty joins second b two)

  -- one content of a join is one of its parts
  one_part : (a b : Cell X) (x : X) → join_cell same a b ≡ One x → (a ≡ One x) ⊎ (b ≡ One x)
  one_part Absent b x e = inr e
  one_part (One y) Absent x e = inl e
  one_part (One y) (One z) x e = of (same y z) e
    where
      of : (t : Bool) → (if t then One y else Clash) ≡ One x → (One y ≡ One x) ⊎ (One z ≡ One x)
      of true f = inl f
      of false f = cc
  one_part (One y) Clash x e = cc
  one_part Clash b x e = cc

  brought : (bring : Frame → Cell X) (frames : List Frame) (x : X) → all_of (map bring frames) ≡ One x →
      (frame : Frame) × Contains frames frame × (bring frame ≡ One x)
  brought bring [] x e = absurd (absent_not_one x e)
  brought bring (frame ∷ frames) x e =
      elim (one_part (bring frame) (all_of (map bring frames)) x e) [
        | inl here ↦ (frame, (0, omega arith, refl), here)
        | inr there ↦
            let b = brought bring frames x there in
            (b.0, (suc b.1.0, omega (arith, b.1.1), b.1.2), b.2)
      ]

  -- one content of a store was brought by a frame
  pub one_brought : (guest : GuestParts) (at : StoreView → Cell X) → at (nothing guest) ≡ Absent →
      ((a b c : StoreView) → IsJoin a b c → at c ≡ join_cell same (at a) (at b)) → (frames : List Frame) (store : StoreView) → Gathers guest frames store →
      (x : X) → at store ≡ One x → (frame : Frame) × Contains frames frame × (at (alone frame) ≡ One x)
  one_brought guest at empty joins frames store gathers x one =
      brought (λ f. at (alone f)) frames x (sym (gathered_cell guest at empty joins frames store gathers) ∙ one)

-- ---- the store of one frame

same_one : {X : Type 0} (a b : X) → One a ≡ One b → a ≡ b
same_one a b e = cc

nothing_at : {K X : Type 0} (R : K → K → Ordering) (q : K) (x : X) → cell_of {X = X} (finite.get (finite.empty {R = R}) q) ≡ One x → ⊥
nothing_at R q x e = absent_not_one x (ap cell_of (sym (finite.get-empty R q)) ∙ e)

module _ {K X : Type 0} (R : K → K → Ordering) (o : IsTotalOrder R) (exact : (a b : K) → R a b ≡ Equal → a ≡ b) (k q : K) (v x : X) where
  alone_by : (b : Bool) → eq_by_cmp R q k ≡ b → cell_of {X = X} (cond b (Some (Some v)) (finite.get (finite.empty {R = R}) q)) ≡ One x → (v ≡ x) × (q ≡ k)
  alone_by true t f = (same_one v x f, exact q k ((Equal-is (R q k)).0 t))
  alone_by false t f = absurd (nothing_at R q x f)

  alone_at : cell_of {X = X} (finite.get (finite.insert (finite.empty {R = R}) k (Some v)) q) ≡ One x → (v ≡ x) × (q ≡ k)
  alone_at e = alone_by (eq_by_cmp R q k) refl (ap cell_of (sym (finite.get-insert o finite.empty k (Some v) q)) ∙ e)

alone_opening : (frame : Frame) (term : ℕ) (o : OpeningParts) → opening_at (alone frame) term ≡ One o → (frame ≡ Opening o) × (o.term ≡ term)
alone_opening (Opening p) term o e =
    let h = alone_at nat_cmp nat_cmp_total exact_unsigned p.term term p o e in
    (ap (λ (x : OpeningParts). Opening x) h.0, ap (λ (x : OpeningParts). x.term) (sym h.0) ∙ sym h.1)
alone_opening (Log f) term o e = absurd (nothing_at nat_cmp term o e)

alone_fragment : (frame : Frame) (key : Key) (f : FragmentParts) → fragment_at (alone frame) key ≡ One f → (frame ≡ Log f) × (f.key ≡ key)
alone_fragment (Log g) key f e =
    let h = alone_at key_cmp keys_total keys_exact g.key key g f e in
    (ap (λ (x : FragmentParts). Log x) h.0, ap (λ (x : FragmentParts). x.key) (sym h.0) ∙ sym h.1)
alone_fragment (Opening p) key f e = absurd (nothing_at key_cmp key f e)

-- ---- stores

of_guest : (guest : GuestParts) (frames : List Frame) (store : StoreView) → Gathers guest frames store → store.guest ≡ guest
of_guest guest frames store (Nothing none is) = ap (λ (s : StoreView). s.guest) is
of_guest guest frames store (Put earlier frame old before joined are) = joined.guest ∙ of_guest guest earlier old before
of_guest guest frames store (Join first second a b one two joined are) = joined.guest ∙ of_guest guest first a one

pub one_gathered : CellsJoin same_opening → CellsJoin same_fragment → OrderMakesNoDifference
one_gathered os fs guest first second a b one two frames =
    one_store a b (of_guest guest first a one ∙ sym (of_guest guest second b two))
    (λ term. same_cell same_opening os guest (λ s. opening_at s term) (ap cell_of (finite.get-empty nat_cmp term)) (λ x y z j. j.openings term)
    first second a b one two frames)
    (λ key. same_cell same_fragment fs guest (λ s. fragment_at s key) (ap cell_of (finite.get-empty key_cmp key)) (λ x y z j. j.fragments key)
    first second a b one two frames)

gathers_more : (guest : GuestParts) (earlier frames : List Frame) (old new : StoreView) → Gathers guest earlier old → Come old frames new →
    Gathers guest (earlier ++ frames) new
gathers_more guest earlier [] old new before is = subst (λ (s : StoreView). Gathers guest (earlier ++ []) s) (sym is) (rw append-nil before)
gathers_more guest earlier (frame ∷ frames) old new before (next, joined, rest) =
    let more = gathers_more guest (earlier ++ frame ∷ []) frames next new (Put earlier frame old before joined refl) rest in
    subst (λ (fs : List Frame). Gathers guest fs new) (append_assoc earlier (frame ∷ []) frames) more

pub come_gathers : ComeGathers
come_gathers guest frames store come = gathers_more guest [] frames (nothing guest) store (Nothing refl refl) come

-- ---- what stands in a store

pub only_gathered_in : CellsJoin same_opening → CellsJoin same_fragment → OnlyGathered
only_gathered_in os fs guest frames store gathers =
    record {
      openings = λ term o one.
          let b = one_brought same_opening os guest (λ s. opening_at s term) (ap cell_of (finite.get-empty nat_cmp term)) (λ x y z j. j.openings term) frames
          store gathers o one in
          let h = alone_opening b.0 term o b.2 in
          (subst (λ (x : Frame). Contains frames x) h.0 b.1, h.1);
      fragments = λ key f one.
          let b = one_brought same_fragment fs guest (λ s. fragment_at s key) (ap cell_of (finite.get-empty key_cmp key)) (λ x y z j. j.fragments key) frames
          store gathers f one in
          let h = alone_fragment b.0 key f b.2 in
          (subst (λ (x : Frame). Contains frames x) h.0 b.1, h.1);
    }

pub gathered_rules : CellsJoin same_opening → CellsJoin same_fragment → GatheredIsStore
gathered_rules os fs guest frames store gathers right own =
    let only = only_gathered_in os fs guest frames store gathers in
    let same = of_guest guest frames store gathers in
    record {
      openings = λ term o one.
          let h = only.openings term o one in
          record { rules = right (Opening o) h.0; same_guest = own (Opening o) h.0 ∙ sym same; same_term = h.1 };
      fragments = λ key f one.
          let h = only.fragments key f one in
          record { rules = right (Log f) h.0; same_guest = own (Log f) h.0 ∙ sym same; same_key = h.1 };
    }
