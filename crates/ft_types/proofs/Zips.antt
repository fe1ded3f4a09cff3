-- Two rows, place by place.
use Rattle.std.proofs.Common.{◌≡◌, ℕ, zero, suc, ◌+◌, ◌-◌, ◌<◌, ◌≤◌, List, [], ◌∷◌, ◌++◌, length, take, drop, refl, ap, sym, ◌∙◌, arith, replicate, min, max}
use Rattle.std.proofs.Common.{get_or, slice_set, length-set, slice_index_or, subst, map}
use Rattle.std.specs.List.{AllByRecursion, AllZip}
use Rattle.std.proofs.lemmas.List.{take_more, take_more_set, take-append-drop, take-replicate, drop-set-lt, drop-drop, drop-replicate, length-replicate, get_or-replicate}
use Rattle.std.proofs.lemmas.Grind.{common_steps}
use Rattle.ft_types.specs.machinery.Rows.{IsRow, length_of_view}
use Rattle.ft_types.specs.Counts.{zipped, IsCount}
use Rattle.ft_types.specs.declared.names.TheConstants.{HART_LIMIT, HART_ROW}

-- a list whose elements are each what another list's element is made into is that list, each made so
pub all_made : {A B : Type 0} (make : A → B) (R : A → B → Type 0) → ((x : A) (y : B) → R x y → y ≡ make x) → (xs : List A) (ys : List B) → AllZip R xs ys →
    ys ≡ map make xs
all_made make R is [] [] zip = refl
all_made make R is [] (y ∷ ys) zip = absurd zip
all_made make R is (x ∷ xs) [] zip = absurd zip
all_made make R is (x ∷ xs) (y ∷ ys) zip = rw (is x y zip.0, all_made make R is xs ys zip.1) refl

-- what holds at each place holds of each element
pub each_at : {A : Type 0} (P : A → Type 0) (xs : List A) → ((i : ℕ) (d : A) → i < length xs → P (slice_index_or xs i d)) → AllByRecursion P xs
each_at P [] at = tt
each_at P (x ∷ xs) at = (at 0 x (omega arith), each_at P xs (λ i d lt. at (suc i) d (omega (arith, lt))))

-- a row with the same at each place
pub all_alike : {A : Type 0} (xs : List A) (n : ℕ) (x : A) → length xs ≡ n → ((i : ℕ) (d : A) → i < length xs → slice_index_or xs i d ≡ x) → xs ≡ replicate n x
all_alike [] n x long at = ap (λ k. replicate k x) long
all_alike (y ∷ ys) n x long at =
    ap (λ z. z ∷ ys) (at 0 y (omega arith))
    ∙ ap (λ zs. x ∷ zs) (all_alike ys (length ys) x refl (λ i d lt. at (suc i) d (omega (arith, lt))))
    ∙ ap (λ k. replicate k x) long

-- a row that has what another one has at each place is that one
pub all_equal : {A : Type 0} (xs ys : List A) → length xs ≡ length ys → ((i : ℕ) (d : A) → i < length xs → slice_index_or xs i d ≡ slice_index_or ys i d) → xs ≡ ys
all_equal [] [] long at = refl
all_equal [] (y ∷ ys) long at = absurd (omega arith)
all_equal (x ∷ xs) [] long at = absurd (omega arith)
all_equal (x ∷ xs) (y ∷ ys) long at =
    ap (λ z. z ∷ xs) (at 0 x (omega arith)) ∙ ap (λ zs. y ∷ zs) (all_equal xs ys (omega arith) (λ i d lt. at (suc i) d (omega (arith, lt))))

pub length-zipped : (f : ℕ → ℕ → ℕ) (xs ys : List ℕ) → length xs ≡ length ys → length (zipped f xs ys) ≡ length xs
length-zipped f [] ys e = refl
length-zipped f (x ∷ xs) [] e = absurd (omega arith)
length-zipped f (x ∷ xs) (y ∷ ys) e = ap suc (length-zipped f xs ys (omega arith))

pub take-zipped : (f : ℕ → ℕ → ℕ) (n : ℕ) (xs ys : List ℕ) → take n (zipped f xs ys) ≡ zipped f (take n xs) (take n ys)
take-zipped f zero xs ys = refl
take-zipped f (suc n) [] ys = refl
take-zipped f (suc n) (x ∷ xs) [] = refl
take-zipped f (suc n) (x ∷ xs) (y ∷ ys) = ap (λ l. f x y ∷ l) (take-zipped f n xs ys)

pub drop-zipped : (f : ℕ → ℕ → ℕ) (n : ℕ) (xs ys : List ℕ) → drop n (zipped f xs ys) ≡ zipped f (drop n xs) (drop n ys)
drop-zipped f zero xs ys = refl
drop-zipped f (suc n) [] ys = refl
drop-zipped f (suc n) (x ∷ xs) [] = drop-zipped_nil f (drop n xs)
  where
    drop-zipped_nil : (f : ℕ → ℕ → ℕ) (xs : List ℕ) → [] ≡ zipped f xs []
    drop-zipped_nil f [] = refl
    drop-zipped_nil f (x ∷ xs) = refl
drop-zipped f (suc n) (x ∷ xs) (y ∷ ys) = drop-zipped f n xs ys

pub zipped-replicate : (f : ℕ → ℕ → ℕ) (n : ℕ) → f 0 0 ≡ 0 → zipped f (replicate n 0) (replicate n 0) ≡ replicate n 0
zipped-replicate f zero e = refl
zipped-replicate f (suc n) e = rw (e, zipped-replicate f n e) refl

pub zipped_kept : (P : ℕ → Type 0) (f : ℕ → ℕ → ℕ) → ((x y : ℕ) → P x → P y → P (f x y)) → (xs ys : List ℕ) →
    AllByRecursion P xs → AllByRecursion P ys → AllByRecursion P (zipped f xs ys)
zipped_kept P f keeps [] ys p q = tt
zipped_kept P f keeps (x ∷ xs) [] p q = tt
zipped_kept P f keeps (x ∷ xs) (y ∷ ys) p q = (keeps x y p.0 q.0, zipped_kept P f keeps xs ys p.1 q.1)

zipped-last : (f : ℕ → ℕ → ℕ) (xs ys : List ℕ) (x y : ℕ) → length xs ≡ length ys →
    zipped f (xs ++ x ∷ []) (ys ++ y ∷ []) ≡ zipped f xs ys ++ f x y ∷ []
zipped-last f [] [] x y e = refl
zipped-last f [] (b ∷ ys) x y e = absurd (omega arith)
zipped-last f (a ∷ xs) [] x y e = absurd (omega arith)
zipped-last f (a ∷ xs) (b ∷ ys) x y e = ap (λ l. f a b ∷ l) (zipped-last f xs ys x y (omega arith))

-- a loop's turn, which writes at i what f makes of the two rows there
pub zips_more : (f : ℕ → ℕ → ℕ) (xs ys zs : List ℕ) (i : ℕ) → i < length xs → i < length ys → i < length zs →
    take i zs ≡ zipped f (take i xs) (take i ys) →
    take (i + 1) (slice_set zs i (f (get_or xs i 0) (get_or ys i 0))) ≡ zipped f (take (i + 1) xs) (take (i + 1) ys)
zips_more f xs ys zs i p q r so_far =
    let same : length (take i xs) ≡ length (take i ys) = grind (arith, common_steps) in
    rw (
      take_more_set zs i (f (get_or xs i 0) (get_or ys i 0)) r,
      take_more xs i 0 p,
      take_more ys i 0 q,
      zipped-last f (take i xs) (take i ys) (get_or xs i 0) (get_or ys i 0) same,
      so_far,
    ) refl

-- a row with a count of 0 for each hart
pub zero_row : (harts : ℕ) → harts ≤ HART_LIMIT → IsRow (replicate HART_ROW 0) harts
zero_row harts few =
    let zeros : List ℕ = replicate HART_ROW 0 in
    let long : length zeros ≡ HART_ROW = length-replicate {A = ℕ} HART_ROW 0 in
    record {
      limit = few;
      words = long;
      counts = each_at IsCount zeros (λ i d lt. rw (get_or-replicate {A = ℕ} HART_ROW i 0 d (omega (arith, long, lt))) (omega arith));
      rest = drop-replicate {X = ℕ} harts HART_ROW 0;
    }

-- and what it shows
pub zero_shows : (harts : ℕ) → harts ≤ HART_LIMIT → take {A = ℕ} harts (replicate HART_ROW 0) ≡ replicate harts 0
zero_shows harts few = take-replicate {X = ℕ} harts HART_ROW 0 (omega (arith, few))

-- a loop's turn that writes at i leaves what is behind
pub behind_kept : (xs ys : List ℕ) (i v : ℕ) → drop i xs ≡ drop i ys → drop (i + 1) (slice_set xs i v) ≡ drop (i + 1) ys
behind_kept xs ys i v same = drop-set-lt (i + 1) xs i v (omega arith) ∙ sym (drop-drop 1 i xs) ∙ ap (drop 1) same ∙ drop-drop 1 i ys

-- what f makes of the harts of two rows, and behind it the rest of the first one, is what it makes of the rows
pub zip_of_harts : (f : ℕ → ℕ → ℕ) (xs ys : List ℕ) (harts : ℕ) → f 0 0 ≡ 0 → IsRow xs harts → IsRow ys harts →
    zipped f (take harts xs) (take harts ys) ++ drop harts xs ≡ zipped f xs ys
zip_of_harts f xs ys harts none p q =
    ap (λ front. front ++ drop harts xs) (sym (take-zipped f harts xs ys))
    ∙ ap (λ rest. take harts (zipped f xs ys) ++ rest)
    (p.rest ∙ sym (drop-zipped f harts xs ys ∙ rw (p.rest, q.rest) (zipped-replicate f (HART_ROW - harts) none)))
    ∙ take-append-drop harts (zipped f xs ys)

-- what f makes of two rows in HART_ROW words is such a row
pub row_of_zip : (f : ℕ → ℕ → ℕ) (xs ys : List ℕ) (harts : ℕ) → f 0 0 ≡ 0 → ((x y : ℕ) → IsCount x → IsCount y → IsCount (f x y)) →
    IsRow xs harts → IsRow ys harts → IsRow (zipped f xs ys) harts
row_of_zip f xs ys harts none keeps p q = record {
  limit = p.limit;
  words = length-zipped f xs ys (p.words ∙ sym q.words) ∙ p.words;
  counts = zipped_kept IsCount f keeps xs ys p.counts q.counts;
  rest = drop-zipped f harts xs ys ∙ rw (p.rest, q.rest) (zipped-replicate f (HART_ROW - harts) none);
}

pub min_counts : (x y : ℕ) → IsCount x → IsCount y → IsCount (min x y)
min_counts x y p q = omega arith

pub max_counts : (x y : ℕ) → IsCount x → IsCount y → IsCount (max x y)
max_counts x y p q = omega arith

module _ (f : ℕ → ℕ → ℕ) (xs ys a b : List ℕ) (m n : ℕ) (none : f 0 0 ≡ 0)
    (keeps : (x y : ℕ) → IsCount x → IsCount y → IsCount (f x y))
    (p : IsRow xs m) (q : IsRow ys n) (sees : take m xs ≡ a) (sees_other : take n ys ≡ b) (same : length a ≡ length b) where
  same_harts : m ≡ n
  same_harts = sym (length_of_view xs m p) ∙ ap length sees ∙ same ∙ ap length (sym sees_other) ∙ length_of_view ys n q

  -- what f makes of their harts, and behind it the rest of the first one, is what it makes of the rows
  pub zip_is_of_harts : zipped f (take m xs) (take m ys) ++ drop m xs ≡ zipped f xs ys
  zip_is_of_harts = zip_of_harts f xs ys m none p (subst (λ (k : ℕ). IsRow ys k) (sym same_harts) q)

  -- what f makes of two rows of as many harts is a row of these harts
  pub zip_is_row : IsRow (zipped f xs ys) m
  zip_is_row = row_of_zip f xs ys m none keeps p (subst (λ (k : ℕ). IsRow ys k) (sym same_harts) q)

  -- and shows what f makes of what the two show
  pub zip_shows : take m (zipped f xs ys) ≡ zipped f a b
  zip_shows = take-zipped f m xs ys ∙ rw sees (ap (zipped f a) (ap (λ (k : ℕ). take k ys) same_harts ∙ sees_other))

pub counts-set : (row : List ℕ) (i v : ℕ) → AllByRecursion IsCount row → IsCount v → AllByRecursion IsCount (slice_set row i v)
counts-set [] i v p q = tt
counts-set (x ∷ xs) zero v p q = (q, p.1)
counts-set (x ∷ xs) (suc i) v p q = (p.0, counts-set xs i v p.1 q)

-- a row that takes one more count
pub row_grows : (row : List ℕ) (i v : ℕ) → i < HART_LIMIT → IsCount v → IsRow row i → IsRow (slice_set row i v) (i + 1)
row_grows row i v lt q p = record {
  limit = omega arith;
  words = length-set row i v ∙ p.words;
  counts = counts-set row i v p.counts q;
  rest =
      drop-set-lt (i + 1) row i v (omega arith) ∙ sym (drop-drop 1 i row) ∙ ap (drop 1) p.rest ∙ drop-replicate 1 (HART_ROW - i) 0
      ∙ ap (λ (k : ℕ). replicate k 0) (omega arith);
}

-- the first i + 1 of a row that takes at i what a list has there
pub takes_more : (row xs : List ℕ) (i : ℕ) → i < length row → i < length xs → take i row ≡ take i xs →
    take (i + 1) (slice_set row i (get_or xs i 0)) ≡ take (i + 1) xs
takes_more row xs i p q same = rw (take_more_set row i (get_or xs i 0) p, take_more xs i 0 q, same) refl
