-- Bytes that are cut at one byte.
use Rattle.std.proofs.Common.{◌≡◌, ℕ, List, [], ◌∷◌, ◌++◌, Bool, true, false, cond, eqb, refl, ap, ◌∙◌}
use Rattle.std.specs.List.{AllByRecursion, slice_split, onto_first, join_with_byte}
use Rattle.std.proofs.lemmas.Bool.{ne_eqb, eq-eqb}
use Rattle.wire.specs.Fields.{HasNone}

abbrev pub cut_at : ℕ → List ℕ → List (List ℕ)
cut_at c bytes = slice_split (λ b. eqb b c) bytes

-- ---- there is a part

never_none : (b : Bool) (x : ℕ) (parts : List (List ℕ)) → cond b ([] ∷ parts) (onto_first x parts) ≡ [] → ⊥
never_none true x parts e = absurd cc
never_none false x [] e = absurd cc
never_none false x (p ∷ ps) e = absurd cc

pub some_part : (c : ℕ) (bytes : List ℕ) → cut_at c bytes ≡ [] → ⊥
some_part c [] e = absurd cc
some_part c (b ∷ bs) e = never_none (eqb b c) b (cut_at c bs) e

-- ---- the first part

pub cut_none : (c : ℕ) (xs : List ℕ) → HasNone c xs → cut_at c xs ≡ xs ∷ []
cut_none c [] p = refl
cut_none c (x ∷ xs) p = rw (ne_eqb x c p.0, cut_none c xs p.1) refl

pub cut_first : (c : ℕ) (xs ys : List ℕ) → HasNone c xs → cut_at c (xs ++ c ∷ ys) ≡ xs ∷ cut_at c ys
cut_first c [] ys p = rw (eq-eqb c c refl) refl
cut_first c (x ∷ xs) ys p = rw (ne_eqb x c p.0, cut_first c xs ys p.1) refl

-- what is joined by a byte that stands in none of the parts is cut into them
pub cut_joined : (c : ℕ) (f : List ℕ) (fs : List (List ℕ)) → HasNone c f → AllByRecursion (HasNone c) fs →
    cut_at c (join_with_byte c (f ∷ fs)) ≡ f ∷ fs
cut_joined c f [] p ps = cut_none c f p
cut_joined c f (g ∷ fs) p ps = cut_first c f (join_with_byte c (g ∷ fs)) p ∙ ap (λ (t : List (List ℕ)). f ∷ t) (cut_joined c g fs ps.0 ps.1)

-- ---- both sides of the byte

onto_front : (x : ℕ) (ps qs : List (List ℕ)) → (ps ≡ [] → ⊥) → onto_first x (ps ++ qs) ≡ onto_first x ps ++ qs
onto_front x [] qs some = absurd (some refl)
onto_front x (p ∷ ps) qs some = refl

either_front : (b : Bool) (x : ℕ) (ps qs : List (List ℕ)) → (ps ≡ [] → ⊥) →
    cond b ([] ∷ (ps ++ qs)) (onto_first x (ps ++ qs)) ≡ cond b ([] ∷ ps) (onto_first x ps) ++ qs
either_front true x ps qs some = refl
either_front false x ps qs some = onto_front x ps qs some

pub cut_append : (c : ℕ) (xs ys : List ℕ) → cut_at c (xs ++ c ∷ ys) ≡ cut_at c xs ++ cut_at c ys
cut_append c [] ys = rw (eq-eqb c c refl) refl
cut_append c (x ∷ xs) ys = rw (cut_append c xs ys) (either_front (eqb x c) x (cut_at c xs) (cut_at c ys) (some_part c xs))

-- ---- one byte more

onto_last : ℕ → List (List ℕ) → List (List ℕ)
onto_last b [] = (b ∷ []) ∷ []
onto_last b (p ∷ []) = (p ++ b ∷ []) ∷ []
onto_last b (p ∷ q ∷ ps) = p ∷ onto_last b (q ∷ ps)

last_is : (b : ℕ) (ps : List (List ℕ)) (rest : List ℕ) → onto_last b (ps ++ rest ∷ []) ≡ ps ++ (rest ++ b ∷ []) ∷ []
unfolding onto_last
last_is b [] rest = refl
last_is b (p ∷ []) rest = refl
last_is b (p ∷ q ∷ ps) rest = ap (λ (t : List (List ℕ)). p ∷ t) (last_is b (q ∷ ps) rest)

either_last : (t : Bool) (x b : ℕ) (ps : List (List ℕ)) → (ps ≡ [] → ⊥) →
    cond t ([] ∷ onto_last b ps) (onto_first x (onto_last b ps)) ≡ onto_last b (cond t ([] ∷ ps) (onto_first x ps))
unfolding onto_last
either_last t x b [] some = absurd (some refl)
either_last true x b (p ∷ ps) some = refl
either_last false x b (p ∷ []) some = refl
either_last false x b (p ∷ q ∷ ps) some = refl

cut_last : (c b : ℕ) (xs : List ℕ) → (b ≡ c → ⊥) → cut_at c (xs ++ b ∷ []) ≡ onto_last b (cut_at c xs)
unfolding onto_last
cut_last c b [] other = rw (ne_eqb b c other) refl
cut_last c b (x ∷ xs) other = rw (cut_last c b xs other) (either_last (eqb x c) x b (cut_at c xs) (some_part c xs))

-- another byte goes to the last part
pub cut_more : (c b : ℕ) (xs : List ℕ) (ps : List (List ℕ)) (rest : List ℕ) → (b ≡ c → ⊥) → cut_at c xs ≡ ps ++ rest ∷ [] →
    cut_at c (xs ++ b ∷ []) ≡ ps ++ (rest ++ b ∷ []) ∷ []
cut_more c b xs ps rest other e = cut_last c b xs other ∙ ap (onto_last b) e ∙ last_is b ps rest
