-- Maps of contents, key by key.
use Rattle.std.proofs.Common.{◌≡◌, refl, sym, ap, ◌∙◌, Bool, true, false, cond, not, ◌&&◌, List, [], ◌∷◌, ℕ, ◌+◌, ◌<◌, take, drop, get_or, length}
use Rattle.std.specs.Prelude.{◌||◌, is_some, Option, Some, None}
use Rattle.std.specs.declared.cmp.Ordering.{Ordering}
use Rattle.std.specs.List.{list_any}
use Rattle.std.specs.List.Sorted.{IsStrictlySortedBy}
use Rattle.std.specs.Ordering.{eq_by_cmp, is_eq}
use Rattle.std.specs.Cmp.{IsTotalOrder, eq_by_cmp_equiv, Equal-is}
use Rattle.std.specs.Map.{keys_of, lookup}
use Rattle.std.specs.BTreeMap.{BTreeMap, get, is_at}
use Rattle.std.proofs.lemmas.Map.{lookup-none}
use Rattle.std.proofs.lemmas.Map.Entries.{none_past_head}
use Rattle.std.proofs.lemmas.Map.Keys.{IsDistinct-from_sorted}
use Rattle.std.proofs.lemmas.List.{take-append-drop}
use Rattle.std.proofs.lemmas.List.Folds.{list_any-append, list_any_more}
use Rattle.frame_content.specs.declared.content.Content.{Content}
use Rattle.log_join.specs.machinery.Contents.{marked, copied, is_among}

-- ---- truth values

first_false : (a b : Bool) → (a || b) ≡ false → a ≡ false
first_false true b e = e
first_false false b e = refl

pub or_false : (a : Bool) → (a || false) ≡ a
or_false true = refl
or_false false = refl

-- a key that is there is passed over
pub passed : (m e a s : Bool) → (e ≡ true → s ≡ true) → (m || (a && not s)) ≡ (m || ((e || a) && not s))
passed m false a s h = refl
passed m true true true h = refl
passed m true false true h = refl
passed m true a false h = absurd (cc (h refl))

-- a key that is missing is taken
pub picked : (m e a s : Bool) → (e ≡ true → s ≡ false) → ((m || (e || false)) || (a && not s)) ≡ (m || ((e || a) && not s))
picked true e a s h = refl
picked false false a s h = refl
picked false true true false h = refl
picked false true false false h = refl
picked false true a true h = absurd (cc (h refl))

-- ---- contents

pub marked_none : (a : Option Content) → marked a None ≡ a
marked_none None = refl
marked_none (Some a) = refl

pub copied_again : (b e : Bool) (here there : Option Content) → copied e (copied b here there) there ≡ copied (b || e) here there
copied_again true true here None = refl
copied_again true true here (Some x) = refl
copied_again true false here there = refl
copied_again false true here there = refl
copied_again false false here there = refl

-- ---- keys

-- no key of a part is one that no key of the whole is
pub none_of_part : {X : Type 0} (p : X → Bool) (xs : List X) (i : ℕ) → list_any p xs ≡ false → list_any p (take i xs) ≡ false
none_of_part p xs i h =
    first_false _ (list_any p (drop i xs)) (sym (list_any-append p (take i xs) (drop i xs)) ∙ ap (list_any p) (take-append-drop i xs) ∙ h)

module _ {K : Type 0} {cmp : K → K → Ordering} (o : IsTotalOrder cmp) where
  -- at a key that ties with another is what is at that one
  pub tied_get : {X : Type 0} (m : BTreeMap K X) (k q : K) → eq_by_cmp cmp k q ≡ true → get cmp m q ≡ get cmp m k
  tied_get m k q t = sym (λ i. lookup (λ z. is_eq (o.congr k q z ((Equal-is (cmp k q)).0 t) i)) m.entries)

  pub among_keys : {X : Type 0} (es : List (K × X)) (q : K) → is_among cmp (keys_of es) q ≡ is_some (lookup (is_at (cmp q)) es)
  among_keys [] q = refl
  among_keys {X} (e ∷ es) q =
      ap (λ b. b || is_among cmp (keys_of es) q) ((eq_by_cmp_equiv o).symm e.0 q)
      ∙ elim (eq_by_cmp cmp q e.0) as (λ b. (b || is_among cmp (keys_of es) q) ≡ is_some (cond b (Some e.1) (lookup (is_at (cmp q)) es))) [
        | true ↦
            refl
        | false ↦ among_keys es q
      ]

  -- one more key of a list
  pub among_more : (ks : List K) (i : ℕ) (d q : K) → i < length ks → is_among cmp (take (i + 1) ks) q ≡ (is_among cmp (take i ks) q || eq_by_cmp cmp
      (get_or ks i d) q)
  among_more ks i d q h = list_any_more (λ k. eq_by_cmp cmp k q) ks i d h

  -- the entry at the front is joined to what is here, and the rest will be
  pub marked_front : (k : K) (x : Content) (es : List (K × Content)) (q : K) (here : Option Content) → IsStrictlySortedBy cmp (keys_of ((k, x) ∷ es)) →
      marked (cond (eq_by_cmp cmp k q) (marked here (Some x)) here) (lookup (is_at (cmp q)) es) ≡ marked here (lookup (is_at (cmp q)) ((k, x) ∷ es))
  marked_front k x es q here rising =
      elim (eq_by_cmp cmp k q) as (λ b. eq_by_cmp cmp k q ≡ b → marked (cond b (marked here (Some x)) here) (lookup (is_at (cmp q)) es) ≡ marked here
      (lookup (is_at (cmp q)) ((k, x) ∷ es))) [
        | true ↦ λ t.
            let back : eq_by_cmp cmp q k ≡ true = (eq_by_cmp_equiv o).symm q k ∙ t in
            let none : lookup (is_at (cmp q)) es ≡ None = lookup-none (is_at (cmp q)) es (none_past_head (eq_by_cmp_equiv o) q (k, x) es
            (IsDistinct-from_sorted cmp _ rising) back) in
            ap (marked (marked here (Some x))) none ∙ marked_none (marked here (Some x)) ∙
            sym (ap (λ b. marked here (cond b (Some x) (lookup (is_at (cmp q)) es))) back)
        | false ↦ λ t. sym (ap (λ b. marked here (cond b (Some x) (lookup (is_at (cmp q)) es))) ((eq_by_cmp_equiv o).symm q k ∙ t))
      ] refl

-- ---- a copy that was undone

pub undone : (asked : Bool) (new mid old : Option Content) → new ≡ cond asked None mid → (asked ≡ true → old ≡ None) → (asked ≡ false → mid ≡ old) → new ≡ old
undone true new mid old e free others = e ∙ sym (free refl)
undone false new mid old e free others = e ∙ others refl

pub is_free : (here there : Option Content) → (is_some there && not (is_some here)) ≡ true → here ≡ None
is_free None there e = refl
is_free (Some x) None e = absurd (cc e)
is_free (Some x) (Some y) e = absurd (cc e)
