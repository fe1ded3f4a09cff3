-- How many keepers acknowledged more than a step.
use Rattle.std.proofs.Common.{◌≡◌, ℕ, zero, suc, ◌+◌, ◌<◌, ◌≤◌, Bool, true, false, cond, List, [], ◌∷◌, length, get_or, refl, sym, ap, subst, ◌∙◌, arith}
use Rattle.std.specs.List.{count_by, fold}
use Rattle.fenced_theory.specs.Lists.{how_many}

one_if : Bool → ℕ
one_if b = cond b 1 0

-- counted from below
from_below : (n : ℕ) (f : ℕ → Bool) → how_many (suc n) f ≡ cond (f 0) 1 0 + how_many n (λ k. f (suc k))
from_below zero f = refl
from_below (suc n) f =
    let rest : how_many (suc n) f ≡ cond (f 0) 1 0 + how_many n (λ k. f (suc k)) = from_below n f in
    let here : how_many (suc (suc n)) f ≡ cond (f (suc n)) 1 0 + how_many (suc n) f = refl in
    let there : how_many (suc n) (λ k. f (suc k)) ≡ cond (f (suc n)) 1 0 + how_many n (λ k. f (suc k)) = refl in
    swapped (cond (f (suc n)) 1 0) (cond (f 0) 1 0) (how_many n (λ k. f (suc k))) (how_many (suc n) f) rest
  where
    swapped : (a b c d : ℕ) → d ≡ b + c → a + d ≡ b + (a + c)
    swapped a b c d e = omega (arith, e)

regroup : (n c r : ℕ) → (n + c) + r ≡ n + ((0 + c) + r)
regroup n c r = omega arith

from_there : {A : Type 0} (f : A → Bool) (n : ℕ) (xs : List A) →
    fold (λ a x. a + cond (f x) 1 0) n xs ≡ n + fold (λ a x. a + cond (f x) 1 0) 0 xs
from_there f n [] = omega arith
from_there f n (x ∷ xs) =
    from_there f (n + cond (f x) 1 0) xs
    ∙ regroup n (cond (f x) 1 0) (fold (λ a x. a + cond (f x) 1 0) 0 xs)
    ∙ ap (λ m. n + m) (sym (from_there f (0 + cond (f x) 1 0) xs))

and_zero : (c r : ℕ) → (0 + c) + r ≡ c + r
and_zero c r = omega arith

-- those in a row
pub in_row : {A : Type 0} (f : A → Bool) (d : A) (xs : List A) → count_by f xs ≡ how_many (length xs) (λ k. f (get_or xs k d))
in_row f d [] = refl
in_row f d (x ∷ xs) =
    from_there f (0 + cond (f x) 1 0) xs
    ∙ and_zero (cond (f x) 1 0) (fold (λ a x. a + cond (f x) 1 0) 0 xs)
    ∙ ap (λ n. cond (f x) 1 0 + n) (in_row f d xs)
    ∙ sym (from_below (length xs) (λ k. f (get_or (x ∷ xs) k d)))

nothing_more : (a n m : ℕ) → a ≡ 0 → n ≡ m → a + n ≡ m
nothing_more a n m none same = omega (arith, none, same)

-- those that are beyond count nothing
pub none_beyond : (n more : ℕ) (f : ℕ → Bool) → ((k : ℕ) → n ≤ k → f k ≡ false) → how_many (more + n) f ≡ how_many n f
none_beyond n zero f none = ap (λ k. how_many k f) (let e : 0 + n ≡ n = omega arith in e)
none_beyond n (suc more) f none =
    ap (λ k. how_many k f) (let e : suc more + n ≡ suc (more + n) = omega arith in e)
    ∙ nothing_more (cond (f (more + n)) 1 0) (how_many (more + n) f) (how_many n f)
    (ap (λ (b : Bool). cond b 1 0) (none (more + n) (omega arith))) (none_beyond n more f none)

either : (b c : Bool) → (b ≡ true → c ≡ true) → one_if b ≤ one_if c
unfolding one_if
either true c then = subst (λ (d : Bool). 1 ≤ cond d 1 0) (sym (then refl)) (omega arith)
either false c then = omega arith

both_sides : (a b c d : ℕ) → a ≤ b → c ≤ d → a + c ≤ b + d
both_sides a b c d one two = omega (arith, one, two)

pub more_are : (n : ℕ) (f g : ℕ → Bool) → ((k : ℕ) → k < n → f k ≡ true → g k ≡ true) → how_many n f ≤ how_many n g
unfolding one_if
more_are zero f g then = omega arith
more_are (suc n) f g then =
    both_sides (cond (f n) 1 0) (cond (g n) 1 0) (how_many n f) (how_many n g) (either (f n) (g n) (then n (omega arith)))
    (more_are n f g (λ k lt. then k (omega (arith, lt))))

beyond : {A : Type 0} (xs : List A) (k : ℕ) (d : A) → length xs ≤ k → get_or xs k d ≡ d
beyond [] k d lt = refl
beyond (x ∷ xs) zero d lt = absurd (omega (arith, lt))
beyond (x ∷ xs) (suc k) d lt = beyond xs k d (omega (arith, lt))

not_true : (b : Bool) → (b ≡ true → ⊥) → b ≡ false
not_true true never = absurd (never refl)
not_true false _ = refl

chained : (a b c d e : ℕ) → a ≡ b → c ≡ b → d ≡ c → d ≤ e → a ≤ e
chained a b c d e one two three last = omega (arith, one, two, three, last)

-- those in a row that are among so many
pub row_among : {A : Type 0} (f : A → Bool) (d : A) (xs : List A) (keepers : ℕ) (g : ℕ → Bool) → f d ≡ false →
    ((k : ℕ) → f (get_or xs k d) ≡ true → (k < keepers) × (g k ≡ true)) → count_by f xs ≤ how_many keepers g
row_among f d xs keepers g none then =
    let row = in_row f d xs in
    let past = none_beyond (length xs) keepers (λ k. f (get_or xs k d)) (λ k lt. ap f (beyond xs k d lt) ∙ none) in
    let over =
    none_beyond keepers (length xs) (λ k. f (get_or xs k d))
    (λ k lt. not_true (f (get_or xs k d)) (λ is. let few = (then k is).0 in absurd (omega (arith, few, lt)))) in
    let same : how_many (length xs + keepers) (λ k. f (get_or xs k d)) ≡ how_many (keepers + length xs) (λ k. f (get_or xs k d)) =
    ap (λ n. how_many n (λ k. f (get_or xs k d))) (let e : length xs + keepers ≡ keepers + length xs = omega arith in e) in
    let fewer = more_are keepers (λ k. f (get_or xs k d)) g (λ k lt is. (then k is).1) in
    chained (count_by f xs) (how_many (length xs) (λ k. f (get_or xs k d))) (how_many (keepers + length xs) (λ k. f (get_or xs k d)))
    (how_many keepers (λ k. f (get_or xs k d))) (how_many keepers g) row past (sym over ∙ same) fewer
