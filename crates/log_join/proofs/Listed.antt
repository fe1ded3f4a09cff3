-- Lists and numbers of what a map of contents has.
use Rattle.std.proofs.Common.{◌≡◌, refl, sym, ap, subst, ◌∙◌, Bool, true, false, cond, List, [], ◌∷◌, map, ℕ, suc, ◌+◌, ◌<◌, length, arith}
use Rattle.std.specs.Prelude.{◌||◌, ◌↔◌, Option, Some, None, IsSome, Contains, count_by}
use Rattle.std.specs.declared.cmp.Ordering.{Ordering}
use Rattle.std.specs.declared.cmp.Ordering.TheVariants.{Less, Equal, Greater}
use Rattle.std.specs.List.{list_any, AllByRecursion}
use Rattle.std.specs.List.Sorted.{IsStrictlySortedBy}
use Rattle.std.specs.Ordering.{eq_by_cmp, is_lt, ordering_then}
use Rattle.std.specs.Cmp.{IsTotalOrder, eq_by_cmp_equiv, Equal-is}
use Rattle.std.specs.Map.{keys_of, values_of, lookup}
use Rattle.std.specs.BTreeMap.{BTreeMap, get, is_at, btree_map_len, IsOrdered}
use Rattle.std.specs.FinMap as finite
use Rattle.std.proofs.lemmas.Map.{lookup-none}
use Rattle.std.proofs.lemmas.Map.Entries.{none_past_head}
use Rattle.std.proofs.lemmas.Map.Keys.{IsDistinct-from_sorted, sorted_head, sorted_tail}
use Rattle.std.proofs.lemmas.Map.Views.{list_any-from_Contains}
use Rattle.std.proofs.lemmas.List.Recursion.{is_count_by}
use Rattle.fragment_codec.specs.declared.frame.Frame.{Frame}
use Rattle.frame_content.specs.declared.content.Content.{Content}
use Rattle.frame_content.specs.declared.content.Content.TheVariants.{One as OneFrame, Clash as Clashed}
use Rattle.log_join.specs.Cells.{One, cell_of}
use Rattle.log_join.specs.Stores.{is_clash}
use Rattle.log_join.specs.machinery.Contents.{content_of, shown, is_one, listed, FitsAt}
use Rattle.frame_content.specs.machinery.Contents.{clashes}
use Rattle.log_join.proofs.Shown.{cell, cell_shown}

-- ---- rising

module _ {K L : Type 0} (R : L → L → Ordering) (key : K → L) where
  above : (k : K) (es : List (K × Content)) → AllByRecursion (λ z. R (key k) (key z) ≡ Less) (keys_of es) → AllByRecursion (λ z. R (key k) z ≡ Less)
      (listed key es)
  above k [] h = tt
  above k (e ∷ es) h =
      elim (is_one (Some e.1)) as (λ b. AllByRecursion (λ z. R (key k) z ≡ Less) (cond b (key e.0 ∷ listed key es) (listed key es))) [
        | true ↦
            (h.0, above k es h.1)
        | false ↦ above k es h.1
      ]

  pub listed_rising : (es : List (K × Content)) → IsStrictlySortedBy (λ a b. R (key a) (key b)) (keys_of es) → IsStrictlySortedBy R (listed key es)
  unfolding IsStrictlySortedBy
  listed_rising [] h = tt
  listed_rising (e ∷ es) h =
      elim (is_one (Some e.1)) as (λ b. IsStrictlySortedBy R (cond b (key e.0 ∷ listed key es) (listed key es))) [
        | true ↦ (
          above e.0 es h.0,
          listed_rising es h.1,
        )
        | false ↦ listed_rising es h.1
      ]

-- ---- exactly

here : {X : Type 0} (x : X) (xs : List X) → Contains (x ∷ xs) x
here x xs = (0, omega arith, refl)

there : {X : Type 0} (x y : X) (xs : List X) → Contains xs y → Contains (x ∷ xs) y
there x y xs (k, l, e) = (suc k, omega arith, e)

module _ {K L : Type 0} {R : L → L → Ordering} (o : IsTotalOrder R) (key : K → L) (total : IsTotalOrder (λ (a b : K). R (key a) (key b))) where
  abbrev by_key : K → K → Ordering
  by_key a b = R (key a) (key b)

  -- a key is listed exactly where there is one content
  listed_at : (q : K) (es : List (K × Content)) → IsStrictlySortedBy by_key (keys_of es) → list_any (eq_by_cmp R (key q)) (listed key es) ≡ is_one
      (lookup (is_at (by_key q)) es)
  listed_at q [] rising = refl
  listed_at q (e ∷ es) rising =
      let rest = listed_at q es (sorted_tail by_key e.0 (keys_of es) rising) in
      elim (eq_by_cmp by_key q e.0) as (λ b. eq_by_cmp by_key q e.0 ≡ b → list_any (eq_by_cmp R (key q)) (listed key (e ∷ es)) ≡ is_one
      (cond b (Some e.1) (lookup (is_at (by_key q)) es))) [
        | true ↦ λ t.
            let none : lookup (is_at (by_key q)) es ≡ None = lookup-none (is_at (by_key q)) es (none_past_head (eq_by_cmp_equiv total) q e es
            (IsDistinct-from_sorted by_key _ rising) t) in
            elim (is_one (Some e.1)) as (λ b. list_any (eq_by_cmp R (key q)) (cond b (key e.0 ∷ listed key es) (listed key es)) ≡ b) [
              | true ↦ ap (λ b. b || list_any (eq_by_cmp R (key q)) (listed key es)) t
              | false ↦ rest ∙ ap is_one none
            ]
        | false ↦ λ t.
            elim (is_one (Some e.1)) as (λ b. list_any (eq_by_cmp R (key q)) (cond b (key e.0 ∷ listed key es) (listed key es)) ≡ is_one
            (lookup (is_at (by_key q)) es)) [
              | true ↦ ap (λ b. b || list_any (eq_by_cmp R (key q)) (listed key es)) t ∙ rest
              | false ↦ rest
            ]
      ] refl

  found_in : ((a b : L) → R a b ≡ Equal → a ≡ b) → (q : L) (ks : List L) → list_any (eq_by_cmp R q) ks ≡ true → Contains ks q
  found_in exact q [] e = absurd (cc e)
  found_in exact q (k ∷ ks) e =
      elim (eq_by_cmp R q k) as (λ b. eq_by_cmp R q k ≡ b → (b || list_any (eq_by_cmp R q) ks) ≡ true → Contains (k ∷ ks) q) [
        | true ↦ λ t h. subst (λ (z : L). Contains (k ∷ ks) z) (sym (exact q k ((Equal-is (R q k)).0 t))) (here k ks)
        | false ↦ λ t h. there k q ks (found_in exact q ks h)
      ] refl e

  module _ {X : Type 0} (part : Frame → Option X) (P : X → Type 0) where
    one_there : (c : Option Content) → FitsAt part P c → is_one c ≡ true → (x : X) × (cell part c ≡ One x)
    one_there None h e = absurd (cc e)
    one_there (Some Clashed) h e = absurd (cc e)
    one_there (Some (OneFrame f)) (x, is, p) e = (x, ap (λ v. cell_of (Some v)) is)

    there_one : (c : Option Content) (x : X) → cell part c ≡ One x → is_one c ≡ true
    there_one None x e = absurd (cc e)
    there_one (Some Clashed) x e = absurd (cc e)
    there_one (Some (OneFrame f)) x e = refl

    pub listed_exact : ((a b : L) → R a b ≡ Equal → a ≡ b) → (m : BTreeMap K Content) (q : K) → IsOrdered by_key m → FitsAt part P (get by_key m q) →
        Contains (listed key m.entries) (key q) ↔ ((x : X) × (cell_of (finite.get (shown R key part m) (key q)) ≡ One x))
    listed_exact exact m q rising fits = (
      λ h.
          let one = one_there (get by_key m q) fits (sym (listed_at q m.entries rising) ∙ list_any-from_Contains (eq_by_cmp_equiv o) (key q)
          (listed key m.entries) h) in
          (one.0, cell_shown o key part m q ∙ one.1),
      λ h. found_in exact (key q) (listed key m.entries) (listed_at q m.entries rising ∙ there_one (get by_key m q) h.0 (sym (cell_shown o key part m q) ∙
          h.1)),
    )

-- ---- no entries

none_of : {K : Type 0} (test : K → Bool) (es : List (K × Content)) → ¬ (0 < length es) → IsSome (lookup test es) → ⊥
none_of test [] h s = cc s
none_of test (e ∷ es) h s = h (omega arith)

pub none_at_all : {K : Type 0} (cmp : K → K → Ordering) (m : BTreeMap K Content) (q : K) → ¬ (0 < btree_map_len m) → IsSome (get cmp m q) → ⊥
none_at_all cmp m q h s = none_of (is_at (cmp q)) m.entries h s

pub first_not_less : (o p : Ordering) → is_lt (ordering_then o p) ≡ false → is_lt o ≡ false
first_not_less Less p e = e
first_not_less Equal p e = refl
first_not_less Greater p e = refl

-- ---- how many clash

abbrev tally : {X : Type 0} → (X → Bool) → List X → ℕ
tally p [] = 0
tally p (x ∷ xs) = cond (p x) (1 + tally p xs) (tally p xs)

tally_is : {X : Type 0} (p : X → Bool) (xs : List X) → tally p xs ≡ count_by p xs
tally_is p xs = is_count_by (tally p) p refl (λ _ _. refl) xs

module _ {K L X : Type 0} {R : L → L → Ordering} (o : IsTotalOrder R) (exact : (a b : L) → R a b ≡ Equal → a ≡ b) (key : K → L)
    (total : IsTotalOrder (λ (a b : K). R (key a) (key b))) (part : Frame → Option X) (P : K → X → Type 0) where
  abbrev ordered_by : K → K → Ordering
  ordered_by a b = R (key a) (key b)

  abbrev entries_of : List (K × Content) → List (L × Option X)
  entries_of es = map {B = L × Option X} (λ e. (key e.0, content_of part e.1)) es

  -- an entry below the first goes before it
  put_first : (k : L) (v : Option X) (e : L × Option X) (es : List (L × Option X)) → R k e.0 ≡ Less → finite.put R k v (e ∷ es) ≡ (k, v) ∷ e ∷ es
  put_first k v e es h = rw h

  no_entries : (es : List (L × Option X)) → length es ≡ 0 → es ≡ []
  no_entries [] e = refl
  no_entries (x ∷ es) e = absurd (omega arith)

  -- entries that rise are those of the map that they make
  entries_shown : (es : List (K × Content)) → IsStrictlySortedBy ordered_by (keys_of es) → finite.entries (finite.from_entries {R = R} (entries_of es)) ≡
      entries_of es
  entries_shown [] rising = no_entries _ (sym (finite.len-entries finite.empty) ∙ finite.len-empty R (Option X))
  entries_shown (e ∷ es) rising =
      finite.entries-insert o (finite.from_entries (entries_of es)) (key e.0) (content_of part e.1)
      ∙ ap (finite.put R (key e.0) (content_of part e.1)) (entries_shown es (sorted_tail ordered_by e.0 (keys_of es) rising))
      ∙ first_stays e es rising
    where
      first_stays : (e : K × Content) (es : List (K × Content)) → IsStrictlySortedBy ordered_by (keys_of (e ∷ es)) → finite.put R (key e.0)
          (content_of part e.1) (entries_of es) ≡ entries_of (e ∷ es)
      first_stays e [] rising = refl
      first_stays e (f ∷ es) rising = put_first (key e.0) (content_of part e.1) (key f.0, content_of part f.1) (entries_of es)
          (sorted_head ordered_by e.0 (keys_of (f ∷ es)) rising).0

  one_clash : (c : Content) (k : K) → FitsAt part (P k) (Some c) → is_clash (content_of part c) ≡ clashes c
  one_clash Clashed k h = refl
  one_clash (OneFrame f) k (x, is, p) = ap is_clash is

  -- what stands behind the first entry stands there too
  rest_fits : (e : K × Content) (es : List (K × Content)) → IsStrictlySortedBy ordered_by (keys_of (e ∷ es)) →
      ((q : K) → FitsAt part (P q) (lookup (is_at (ordered_by q)) (e ∷ es))) → (q : K) → FitsAt part (P q) (lookup (is_at (ordered_by q)) es)
  rest_fits e es rising fits q =
      elim (eq_by_cmp ordered_by q e.0) as (λ b. eq_by_cmp ordered_by q e.0 ≡ b → FitsAt part (P q) (cond b (Some e.1) (lookup (is_at (ordered_by q)) es)) →
      FitsAt part (P q) (lookup (is_at (ordered_by q)) es)) [
        | true ↦ λ t h. subst (FitsAt part (P q)) (sym (lookup-none (is_at (ordered_by q)) es (none_past_head (eq_by_cmp_equiv total) q e es
            (IsDistinct-from_sorted ordered_by _ rising) t))) tt
        | false ↦ λ t h. h
      ] refl (fits q)

  first_fits : (e : K × Content) (es : List (K × Content)) → ((q : K) → FitsAt part (P q) (lookup (is_at (ordered_by q)) (e ∷ es))) →
      FitsAt part (P e.0) (Some e.1)
  first_fits e es fits = subst (λ (b : Bool). FitsAt part (P e.0) (cond b (Some e.1) (lookup (is_at (ordered_by e.0)) es))) ((eq_by_cmp_equiv total).refl e.0)
      (fits e.0)

  tally_shown : (es : List (K × Content)) → IsStrictlySortedBy ordered_by (keys_of es) → ((q : K) → FitsAt part (P q) (lookup (is_at (ordered_by q)) es)) →
      tally is_clash (map (λ e. e.1) (entries_of es)) ≡ tally clashes (values_of es)
  tally_shown [] rising fits = refl
  tally_shown (e ∷ es) rising fits =
      let rest = tally_shown es (sorted_tail ordered_by e.0 (keys_of es) rising) (rest_fits e es rising fits) in
      ap (λ b. cond b (1 + tally is_clash (map (λ z. z.1) (entries_of es))) (tally is_clash (map (λ z. z.1) (entries_of es))))
      (one_clash e.1 e.0 (first_fits e es fits))
      ∙ ap (λ n. cond (clashes e.1) (1 + n) n) rest

  pub clashes_shown : (m : BTreeMap K Content) → IsOrdered ordered_by m → ((q : K) → FitsAt part (P q) (get ordered_by m q)) →
      count_by clashes (values_of m.entries) ≡ count_by is_clash (finite.values (shown R key part m))
  clashes_shown m rising fits =
      sym (tally_is clashes (values_of m.entries)) ∙ sym (tally_shown m.entries rising fits) ∙ tally_is is_clash (map (λ e. e.1) (entries_of m.entries))
      ∙ sym (ap (λ es. count_by is_clash (map (λ (e : L × Option X). e.1) es)) (entries_shown m.entries rising))
