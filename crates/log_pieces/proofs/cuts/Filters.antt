-- What filters keep of a list.
use Rattle.std.proofs.Common.{◌≡◌, ℕ, ◌+◌, ◌<◌, ◌≤◌, Bool, true, false, cond, ◌&&◌, List, [], ◌∷◌, ◌++◌, length, take, drop, filter, count_by, All, arith}
use Rattle.std.proofs.Common.{refl, sym, ap, ◌∙◌, length-append, length-drop, length-take, take-append-drop, append-nil}
use Rattle.std.specs.List.{AllWithin, AllByRecursion}
use Rattle.std.proofs.lemmas.Bool.{cond_both}
use Rattle.std.proofs.lemmas.List.{get_or-take, get_or-drop}
use Rattle.std.proofs.lemmas.List.Elements.{All-head, All-tail, filter-append}
use Rattle.std.proofs.lemmas.List.Sums.{sum_by-cons}

module _ {A : Type 0} where
  filter_none : (p : A → Bool) (xs : List A) → All (λ x. p x ≡ false) xs → filter p xs ≡ []
  filter_none p [] none = refl
  filter_none p (x ∷ xs) none = rw (All-head (λ y. p y ≡ false) x xs none) (filter_none p xs (All-tail (λ y. p y ≡ false) x xs none))

  pub filter_all : (p : A → Bool) (xs : List A) → All (λ x. p x ≡ true) xs → filter p xs ≡ xs
  filter_all p [] all = refl
  filter_all p (x ∷ xs) all =
      rw (All-head (λ y. p y ≡ true) x xs all) (ap (λ l. x ∷ l) (filter_all p xs (All-tail (λ y. p y ≡ true) x xs all)))

  pub all_front : (P : A → Type 0) (xs : List A) (k : ℕ) → AllWithin P xs 0 k → All P (take k xs)
  all_front P xs k all j d below =
      let less : j < k = omega (arith, length-take k xs) in
      rw (get_or-take k xs j d less) (all j d (omega arith) less)

  pub all_back : (P : A → Type 0) (xs : List A) (k : ℕ) → AllWithin P xs k (length xs) → All P (drop k xs)
  all_back P xs k all j d below =
      rw (get_or-drop k xs j d) (all (k + j) d (omega arith) (omega (arith, length-drop k xs)))

  filter_split : (p : A → Bool) (xs : List A) (k : ℕ) → filter p xs ≡ filter p (take k xs) ++ filter p (drop k xs)
  filter_split p xs k = ap (filter p) (sym (take-append-drop k xs)) ∙ filter-append p (take k xs) (drop k xs)

  -- what passes is the front of the list
  pub filter_front : (p : A → Bool) (xs : List A) (k : ℕ) →
      AllWithin (λ x. p x ≡ true) xs 0 k → AllWithin (λ x. p x ≡ false) xs k (length xs) → take k xs ≡ filter p xs
  filter_front p xs k front back =
      let all : filter p (take k xs) ≡ take k xs = filter_all p (take k xs) (all_front (λ x. p x ≡ true) xs k front) in
      let none : filter p (drop k xs) ≡ [] = filter_none p (drop k xs) (all_back (λ x. p x ≡ false) xs k back) in
      sym (filter_split p xs k ∙ (ap (λ l. l ++ filter p (drop k xs)) all ∙ (ap (λ l. take k xs ++ l) none ∙ append-nil (take k xs))))

  -- what passes is the rest of the list
  pub filter_back : (p : A → Bool) (xs : List A) (k : ℕ) →
      AllWithin (λ x. p x ≡ false) xs 0 k → AllWithin (λ x. p x ≡ true) xs k (length xs) → drop k xs ≡ filter p xs
  filter_back p xs k front back =
      let none : filter p (take k xs) ≡ [] = filter_none p (take k xs) (all_front (λ x. p x ≡ false) xs k front) in
      let all : filter p (drop k xs) ≡ drop k xs = filter_all p (drop k xs) (all_back (λ x. p x ≡ true) xs k back) in
      sym (filter_split p xs k ∙ (ap (λ l. l ++ filter p (drop k xs)) none ∙ all))

  -- a front that passes is kept
  pub length-filter_front : (p : A → Bool) (xs : List A) (k : ℕ) → k ≤ length xs → AllWithin (λ x. p x ≡ true) xs 0 k → k ≤ length (filter p xs)
  length-filter_front p xs k within front =
      let all : filter p (take k xs) ≡ take k xs = filter_all p (take k xs) (all_front (λ x. p x ≡ true) xs k front) in
      omega (arith, ap length (filter_split p xs k), ap length all, length-append (filter p (take k xs)) (filter p (drop k xs)), length-take k xs)

  pub filter-le-length : (p : A → Bool) (xs : List A) → length (filter p xs) ≤ length xs
  filter-le-length p [] = omega arith
  filter-le-length p (x ∷ xs) =
      let rest = filter-le-length p xs in
      cond_both (p x) (x ∷ filter p xs) (filter p xs) (λ l. length l ≤ length (x ∷ xs)) (λ e. omega arith) (λ e. omega arith)

  -- no more pass than stand before a rest that does not pass
  pub length-filter-le : (p : A → Bool) (xs : List A) (k : ℕ) → AllWithin (λ x. p x ≡ false) xs k (length xs) → length (filter p xs) ≤ k
  length-filter-le p xs k back =
      let none : filter p (drop k xs) ≡ [] = filter_none p (drop k xs) (all_back (λ x. p x ≡ false) xs k back) in
      omega (
        arith,
        ap length (filter_split p xs k),
        ap length none,
        length-append (filter p (take k xs)) (filter p (drop k xs)),
        filter-le-length p (take k xs),
        length-take k xs,
      )

  twice : (p : A → Bool) (b : Bool) (x : A) (xs ys : List A) → filter p xs ≡ ys → filter p (cond b (x ∷ xs) xs) ≡ cond (b && p x) (x ∷ ys) ys
  twice p true x xs ys is = ap (λ l. cond (p x) (x ∷ l) l) is
  twice p false x xs ys is = is

  pub filter-filter : (p q : A → Bool) (xs : List A) → filter p (filter q xs) ≡ filter (λ x. q x && p x) xs
  filter-filter p q [] = refl
  filter-filter p q (x ∷ xs) = twice p (q x) x (filter q xs) (filter (λ y. q y && p y) xs) (filter-filter p q xs)

  count_step : (q : A → Bool) (x : A) (xs ys : List A) → count_by q xs ≤ count_by q ys → count_by q (x ∷ xs) ≤ count_by q (x ∷ ys)
  count_step q x xs ys le =
      omega (arith, sum_by-cons (λ y. cond (q y) 1 0) x xs, sum_by-cons (λ y. cond (q y) 1 0) x ys)

  pub count_by-filter-le : (q p : A → Bool) (xs : List A) → count_by q (filter p xs) ≤ count_by q xs
  count_by-filter-le q p [] = omega arith
  count_by-filter-le q p (x ∷ xs) =
      let rest = count_by-filter-le q p xs in
      cond_both (p x) (x ∷ filter p xs) (filter p xs) (λ l. count_by q l ≤ count_by q (x ∷ xs))
      (λ e. count_step q x (filter p xs) xs rest)
      (λ e. omega (arith, rest, sum_by-cons (λ y. cond (q y) 1 0) x xs))

  pub all_both : (P Q R : A → Type 0) → ((x : A) → P x → Q x → R x) → (xs : List A) → AllByRecursion P xs → AllByRecursion Q xs → AllByRecursion R xs
  all_both P Q R f [] p q = tt
  all_both P Q R f (x ∷ xs) p q = (f x p.0 q.0, all_both P Q R f xs p.1 q.1)
