-- Counts beside what stands at them.
use Rattle.std.proofs.Common.{◌≡◌, ℕ, zero, suc, ◌≤◌, Bool, true, false, List, [], ◌∷◌, length, take, drop, filter, zip, arith, refl, sym, ap, subst, ◌∙◌}
use Rattle.std.specs.List.{AllWithin}
use Rattle.std.proofs.lemmas.Slice.Zip.{get_or-zip, length-zip}
use Rattle.log_pieces.proofs.cuts.Filters.{filter_front, filter_back}

module _ {A B : Type 0} where
  zip_take : (k : ℕ) (ks : List A) (vs : List B) → zip (take k ks) (take k vs) ≡ take k (zip ks vs)
  zip_take zero ks vs = refl
  zip_take (suc k) [] vs = refl
  zip_take (suc k) (n ∷ ks) [] = refl
  zip_take (suc k) (n ∷ ks) (v ∷ vs) = ap (λ l. (n, v) ∷ l) (zip_take k ks vs)

  pub zip_drop : (k : ℕ) (ks : List A) (vs : List B) → length vs ≡ length ks → zip (drop k ks) (drop k vs) ≡ drop k (zip ks vs)
  zip_drop zero ks vs same = refl
  zip_drop (suc k) [] vs same = refl
  zip_drop (suc k) (n ∷ ks) [] same = absurd (omega arith)
  zip_drop (suc k) (n ∷ ks) (v ∷ vs) same = zip_drop k ks vs (omega arith)

  within_zip : (P : A → Type 0) (low high : ℕ) (ks : List A) (vs : List B) → length vs ≡ length ks → high ≤ length ks →
      AllWithin P ks low high → AllWithin (λ (x : A × B). P x.0) (zip ks vs) low high
  within_zip P low high ks vs same le all k d a b = rw (get_or-zip ks vs k d (omega arith) (omega arith)) (all k d.0 a b)

  within_rest : (P : A → Type 0) (low : ℕ) (ks : List A) (vs : List B) → length vs ≡ length ks →
      AllWithin P ks low (length ks) → AllWithin (λ (x : A × B). P x.0) (zip ks vs) low (length (zip ks vs))
  within_rest P low ks vs same all =
      let size : length (zip ks vs) ≡ length ks = omega (arith, length-zip ks vs) in
      subst (λ n. AllWithin (λ (x : A × B). P x.0) (zip ks vs) low n) (sym size) (within_zip P low (length ks) ks vs same (omega arith) all)

  pub zip_front : (p : A → Bool) (ks : List A) (vs : List B) (k : ℕ) → length vs ≡ length ks → k ≤ length ks →
      AllWithin (λ n. p n ≡ true) ks 0 k → AllWithin (λ n. p n ≡ false) ks k (length ks) →
      zip (take k ks) (take k vs) ≡ filter (λ x. p x.0) (zip ks vs)
  zip_front p ks vs k same le front back =
      zip_take k ks vs ∙
      filter_front (λ (x : A × B). p x.0) (zip ks vs) k (within_zip (λ n. p n ≡ true) 0 k ks vs same le front)
      (within_rest (λ n. p n ≡ false) k ks vs same back)

  pub zip_back : (p : A → Bool) (ks : List A) (vs : List B) (k : ℕ) → length vs ≡ length ks → k ≤ length ks →
      AllWithin (λ n. p n ≡ false) ks 0 k → AllWithin (λ n. p n ≡ true) ks k (length ks) →
      zip (drop k ks) (drop k vs) ≡ filter (λ x. p x.0) (zip ks vs)
  zip_back p ks vs k same le front back =
      zip_drop k ks vs same ∙
      filter_back (λ (x : A × B). p x.0) (zip ks vs) k (within_zip (λ n. p n ≡ false) 0 k ks vs same le front) (within_rest (λ n. p n ≡ true) k ks vs same back)
