-- The laws of stores, from those of cells.
use Rattle.std.proofs.Common.{◌≡◌, refl, sym, ap, ◌∙◌, Bool, true, false, cond, ℕ, List, [], ◌∷◌}
use Rattle.std.specs.Prelude.{Option, Some, None}
use Rattle.std.specs.Ordering.{nat_cmp, eq_by_cmp, ordering_then}
use Rattle.std.specs.declared.cmp.Ordering.{Ordering}
use Rattle.std.specs.declared.cmp.Ordering.TheVariants.{Equal}
use Rattle.std.specs.Cmp.{IsTotalOrder, nat_cmp_total, Equal-is}
use Rattle.std.specs.FinMap as map
use Rattle.std.proofs.lemmas.Cmp.{on_total, then_total}
use Rattle.std.proofs.lemmas.Map.Lookups.{exact_pairs, exact_unsigned}
use Rattle.fragment_codec.specs.declared.types.Key.{Key}
use Rattle.log_join.specs.Cells.{Cell, Absent, One, Clash, join_cell, cell_of}
use Rattle.frame_content.specs.Tests.{same_opening, same_fragment}
use Rattle.log_join.specs.Stores.{StoreView, key_cmp, opening_at, fragment_at, IsJoin}
use Rattle.log_join.specs.Laws.{CellsJoin, OneJoin, Associates, Commutes, Idempotent, HasUnit}

-- ---- keys in order

pub keys_total : IsTotalOrder key_cmp
keys_total = then_total (on_total (λ (k : Key). k.term) nat_cmp_total) (then_total (on_total (λ (k : Key). k.hart) nat_cmp_total)
    (on_total (λ (k : Key). k.place) nat_cmp_total))

-- keys that compare alike are one
pub keys_exact : (a b : Key) → key_cmp a b ≡ Equal → a ≡ b
keys_exact a b h =
    ap (λ (p : ℕ × (ℕ × ℕ)). let k : Key = record { term = p.0; hart = p.1.0; place = p.1.1 } in k)
    (exact_pairs nat_cmp (λ (x y : ℕ × ℕ). ordering_then (nat_cmp x.0 y.0) (nat_cmp x.1 y.1)) exact_unsigned
    (exact_pairs nat_cmp nat_cmp exact_unsigned exact_unsigned)
    (a.term, (a.hart, a.place)) (b.term, (b.hart, b.place)) h)

-- ---- stores that have the same cells are one

abbrev uncelled : {X : Type 0} → Cell X → Option (Option X)
uncelled Absent = None
uncelled (One x) = Some (Some x)
uncelled Clash = Some None

uncelled-cell : {X : Type 0} (c : Option (Option X)) → uncelled (cell_of c) ≡ c
uncelled-cell None = refl
uncelled-cell (Some None) = refl
uncelled-cell (Some (Some x)) = refl

one_cell : {X : Type 0} (c d : Option (Option X)) → cell_of c ≡ cell_of d → c ≡ d
one_cell c d e = sym (uncelled-cell c) ∙ ap uncelled e ∙ uncelled-cell d

pub one_store : (a b : StoreView) → a.guest ≡ b.guest → ((term : ℕ) → opening_at a term ≡ opening_at b term) →
    ((key : Key) → fragment_at a key ≡ fragment_at b key) → a ≡ b
one_store a b g terms keys =
    let openings = map.same_map nat_cmp_total exact_unsigned a.openings b.openings (λ term. one_cell _ _ (terms term)) in
    let fragments = map.same_map keys_total keys_exact a.fragments b.fragments (λ key. one_cell _ _ (keys key)) in
    λ i. record { guest = g i; openings = openings i; fragments = fragments i }

-- ---- there is a join

-- what stands at a key that the other has, joined
abbrev merged : {X : Type 0} → (X → X → Bool) → Option (Option X) → Option X → Option X
merged same None v = v
merged same (Some None) v = None
merged same (Some (Some x)) None = None
merged same (Some (Some x)) (Some y) = cond (same x y) (Some x) None

merged_cell : {X : Type 0} (same : X → X → Bool) (c : Option (Option X)) (v : Option X) → cell_of (Some (merged same c v)) ≡ join_cell same (cell_of c)
    (cell_of (Some v))
merged_cell same None v = refl
merged_cell same (Some None) v = refl
merged_cell same (Some (Some x)) None = refl
merged_cell same (Some (Some x)) (Some y) = elim (same x y) as (λ b. cell_of (Some (cond b (Some x) None)) ≡ cond b (One x) Clash) [
  | true ↦ refl
  | false ↦
      refl
]

pub join_absent : {X : Type 0} (same : X → X → Bool) (c : Cell X) → join_cell same c Absent ≡ c
join_absent same Absent = refl
join_absent same (One x) = refl
join_absent same Clash = refl

module _ {K X : Type 0} {R : K → K → Ordering} (o : IsTotalOrder R) (same : X → X → Bool) where
  -- the map a with these entries joined to it
  pub joined_map : map.FinMap R (Option X) → List (K × Option X) → map.FinMap R (Option X)
  joined_map a [] = a
  joined_map a (e ∷ es) = map.insert (joined_map a es) e.0 (merged same (map.get a e.0) e.1)

  joined_map_at : (a : map.FinMap R (Option X)) (es : List (K × Option X)) (q : K) → cell_of (map.get (joined_map a es) q) ≡ join_cell same
      (cell_of (map.get a q)) (cell_of (map.find R q es))
  unfolding joined_map
  joined_map_at a [] q = sym (join_absent same (cell_of (map.get a q)))
  joined_map_at a (e ∷ es) q =
      ap cell_of (map.get-insert o (joined_map a es) e.0 (merged same (map.get a e.0) e.1) q)
      ∙ elim (eq_by_cmp R q e.0) as (λ b. eq_by_cmp R q e.0 ≡ b → cell_of (cond b (Some (merged same (map.get a e.0) e.1)) (map.get (joined_map a es) q)) ≡
      join_cell same (cell_of (map.get a q)) (cell_of (cond b (Some e.1) (map.find R q es)))) [
        | true ↦ λ t. merged_cell same (map.get a e.0) e.1 ∙ ap (λ c. join_cell same (cell_of c) (cell_of (Some e.1)))
            (map.get_tied o a q e.0 ((Equal-is (R q e.0)).0 t))
        | false ↦ λ t. joined_map_at a es q
      ] refl

  pub join_at : (a b : map.FinMap R (Option X)) (q : K) → cell_of (map.get (joined_map a (map.entries b)) q) ≡ join_cell same (cell_of (map.get a q))
      (cell_of (map.get b q))
  join_at a b q = joined_map_at a (map.entries b) q ∙ ap (λ c. join_cell same (cell_of (map.get a q)) (cell_of c)) (sym (map.get-entries b q))

pub joined_is : (a b : StoreView) → (c : StoreView) × IsJoin a b c
joined_is a b =
    let c : StoreView = record {
      guest = a.guest;
      openings = joined_map nat_cmp_total same_opening a.openings (map.entries b.openings);
      fragments = joined_map keys_total same_fragment a.fragments (map.entries b.fragments);
    } in (
      c,
      record {
        guest = refl;
        openings = λ term. join_at nat_cmp_total same_opening a.openings b.openings term;
        fragments = λ key. join_at keys_total same_fragment a.fragments b.fragments key;
      },
    )

-- ---- the laws

module _ (os : CellsJoin same_opening) (fs : CellsJoin same_fragment) where
  pub one_join : (a b : StoreView) → OneJoin a b
  one_join a b = record {
    there = joined_is a b;
    one = λ c d h k. one_store c d (h.guest ∙ sym k.guest) (λ t. h.openings t ∙ sym (k.openings t)) (λ q. h.fragments q ∙ sym (k.fragments q));
  }

  pub associates : Associates
  associates a b c ab bc left right h k m n =
      one_store left right (k.guest ∙ h.guest ∙ sym n.guest)
      (λ t. k.openings t ∙ ap (λ x. join_cell same_opening x (opening_at c t)) (h.openings t) ∙ os.associative (opening_at a t) (opening_at b t)
      (opening_at c t)
      ∙ sym (n.openings t ∙ ap (join_cell same_opening (opening_at a t)) (m.openings t)))
      (λ q. k.fragments q ∙ ap (λ x. join_cell same_fragment x (fragment_at c q)) (h.fragments q) ∙ fs.associative (fragment_at a q) (fragment_at b q)
      (fragment_at c q)
      ∙ sym (n.fragments q ∙ ap (join_cell same_fragment (fragment_at a q)) (m.fragments q)))

  pub commutes : Commutes
  commutes a b ab ba g h k =
      one_store ab ba (h.guest ∙ g ∙ sym k.guest)
      (λ t. h.openings t ∙ os.commutative (opening_at a t) (opening_at b t) ∙ sym (k.openings t))
      (λ q. h.fragments q ∙ fs.commutative (fragment_at a q) (fragment_at b q) ∙ sym (k.fragments q))

  pub idempotent_stores : Idempotent
  idempotent_stores a joined h =
      one_store joined a h.guest (λ t. h.openings t ∙ os.idempotent (opening_at a t)) (λ q. h.fragments q ∙ fs.idempotent (fragment_at a q))

pub unit_of_stores : HasUnit
unit_of_stores a joined guest h =
    one_store joined a h.guest
    (λ t. h.openings t ∙ ap (λ c. join_cell same_opening (opening_at a t) (cell_of c)) (map.get-empty nat_cmp t) ∙ join_absent same_opening (opening_at a t))
    (λ q. h.fragments q ∙ ap (λ c. join_cell same_fragment (fragment_at a q) (cell_of c)) (map.get-empty key_cmp q) ∙ join_absent same_fragment
    (fragment_at a q))
