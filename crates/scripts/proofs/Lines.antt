-- Lines that each say one thing: a text has one reading, which is what its lines say, or one fault.
use Rattle.std.proofs.Common.{◌≡◌, ◌⊎◌, inl, inr, ℕ, ◌+◌, ◌<◌, List, [], ◌∷◌, ◌++◌, length, Result, Ok, Err, refl, ap, sym, subst, ◌∙◌, arith}
use Rattle.std.proofs.Common.{append_assoc, append-nil, length-append}
use Rattle.std.specs.Prelude.{IfOk, IfErr, MatchResult}
use Rattle.std.specs.List.{flat_map, AllByRecursion}
use Rattle.ft_types.specs.Text.{line}
use Rattle.scripts.specs.Script.{HasNone}
use Rattle.scripts.proofs.Cuts.{one_first, line_is}

-- what a line may say, and how it is spelled
module _ {A : Type 0} (May : A → Type 0) (text : A → List ℕ) where
  abbrev line_of : A → List ℕ
  line_of a = line (text a)

  abbrev text_of : List A → List ℕ
  text_of said = flat_map line_of said

  abbrev BeginsWith : List ℕ → A → List ℕ → Type 0
  BeginsWith bytes a rest = May a × (bytes ≡ line_of a ++ rest)

  abbrev Lacks : List ℕ → Type 0
  Lacks bytes = (a : A) (rest : List ℕ) → BeginsWith bytes a rest → ⊥

  -- line k is behind right lines, and is not right
  abbrev IsBad : List ℕ → ℕ → Type 0
  IsBad bytes k = (said : List A) × (rest : List ℕ) × (AllByRecursion May said × (bytes ≡ text_of said ++ rest)) × (0 < length rest) × Lacks rest ×
      (k ≡ length said + 1)

  line_length : (a : A) (rest : List ℕ) → 0 < length (line_of a ++ rest)
  line_length a rest = omega (arith, length-append (line_of a) rest, length-append (text a) (10 ∷ []))

  empty_lacks : Lacks []
  empty_lacks a rest s = omega (arith, ap length s.1, line_length a rest)

  -- no line feed stands in what is spelled
  module _ (no_break : (a : A) → May a → HasNone 10 (text a)) where
    -- the first line is one
    same_line : (bytes front rest : List ℕ) (a : A) (other : List ℕ) → HasNone 10 front → bytes ≡ line front ++ rest → BeginsWith bytes a other →
        (front ≡ text a) × (rest ≡ other)
    same_line bytes front rest a other one is s = one_first 10 front (text a) rest other one (no_break a s.0)
        (sym (line_is front rest) ∙ sym is ∙ s.1 ∙ line_is (text a) other)

    pub lacks_by_text : (bytes front rest : List ℕ) → HasNone 10 front → bytes ≡ line front ++ rest → ((a : A) → May a → front ≡ text a → ⊥) → Lacks bytes
    lacks_by_text bytes front rest one is none a other s = none a s.0 (same_line bytes front rest a other one is s).0

    -- when two lists of what is said are one, as they are where they are spelled alike
    module _ (Same : List A → List A → Type 0) (none_same : Same [] [])
        (more_same : (a b : A) (xs ys : List A) → May a → May b → text a ≡ text b → Same xs ys → Same (a ∷ xs) (b ∷ ys))
        (same_length : (xs ys : List A) → Same xs ys → length xs ≡ length ys) where
      -- the right lines before a line that is not are the same
      same_lines : (xs ys : List A) (x y : List ℕ) → AllByRecursion May xs → AllByRecursion May ys → Lacks x → Lacks y → text_of xs ++ x ≡ text_of ys ++ y →
          Same xs ys × (x ≡ y)
      same_lines [] [] x y p q apart none e = (none_same, e)
      same_lines [] (b ∷ bs) x y p q apart none e = absurd
          (apart b (text_of bs ++ y) (q.0, e ∙ append_assoc (line_of b) (text_of bs) y))
      same_lines (a ∷ us) [] x y p q apart none e = absurd
          (none a (text_of us ++ x) (p.0, sym e ∙ append_assoc (line_of a) (text_of us) x))
      same_lines (a ∷ us) (b ∷ bs) x y p q apart none e =
          let first = same_line (line_of a ++ (text_of us ++ x)) (text a) (text_of us ++ x) b (text_of bs ++ y) (no_break a p.0) refl (
            q.0,
            sym (append_assoc (line_of a) (text_of us) x) ∙ e ∙ append_assoc (line_of b) (text_of bs) y,
          ) in
          let rest = same_lines us bs x y p.1 q.1 apart none first.1 in
          (more_same a b us bs p.0 q.0 first.0 rest.0, rest.1)

      same_all : (xs ys : List A) → AllByRecursion May xs → AllByRecursion May ys → text_of xs ≡ text_of ys → Same xs ys
      same_all xs ys p q e = (same_lines xs ys [] [] p q empty_lacks empty_lacks (append-nil (text_of xs) ∙ e ∙ sym (append-nil (text_of ys)))).0

      faultless : (bytes : List ℕ) (xs : List A) (k : ℕ) → AllByRecursion May xs → bytes ≡ text_of xs → IsBad bytes k → ⊥
      faultless bytes xs k p is f =
          let r = same_lines f.0 xs f.1 [] f.2.0 p f.4 empty_lacks (sym f.2.1 ∙ is ∙ sym (append-nil (text_of xs))) in
          omega (arith, f.3, ap length r.1)

      one_line : (bytes : List ℕ) (j k : ℕ) → IsBad bytes j → IsBad bytes k → j ≡ k
      one_line bytes j k p q =
          let r = same_lines p.0 q.0 p.1 q.1 p.2.0 q.2.0 p.4 q.4 (sym p.2.1 ∙ q.2.1) in
          p.5 ∙ ap (λ (n : ℕ). n + 1) (same_length p.0 q.0 r.0) ∙ sym q.5

      -- a fault is want of memory, or a line that is not right
      module _ {F : Type 0} (memory : F) (bad : ℕ → F) (IsFault : List ℕ → F → Type 0) (which : (f : F) → (f ≡ memory) ⊎ ((k : ℕ) × (f ≡ bad k)))
          (is_bad : (bytes : List ℕ) (k : ℕ) → IsFault bytes (bad k) → IsBad bytes k) where
        only_memory : (bytes : List ℕ) (xs : List A) (f : F) → AllByRecursion May xs → bytes ≡ text_of xs → IsFault bytes f → f ≡ memory
        only_memory bytes xs f p is fault = elim (which f) [
          | inl none ↦ none
          | inr one ↦ absurd (faultless bytes xs one.0 p is (is_bad bytes one.0 (subst (IsFault bytes) one.1 fault)))
        ]

        one_fault : (bytes : List ℕ) (f : F) (k : ℕ) → IsFault bytes f → IsFault bytes (bad k) → (f ≡ memory) ⊎ (f ≡ bad k)
        one_fault bytes f k fault at = elim (which f) [
          | inl none ↦ inl none
          | inr one ↦ inr (one.1 ∙ ap bad (one_line bytes one.0 k (is_bad bytes one.0 (subst (IsFault bytes) one.1 fault)) (is_bad bytes k at)))
        ]

        pub only_reading : {R : Type 0} (items : R → List A) (bytes : List ℕ) (r : Result R F) →
            IfOk r (λ a. AllByRecursion May (items a) × (bytes ≡ text_of (items a))) → IfErr r (λ f. IsFault bytes f) → (xs : List A) →
            AllByRecursion May xs → bytes ≡ text_of xs → MatchResult r (λ a. Same (items a) xs) (λ f. f ≡ memory)
        only_reading items bytes (Ok a) p q xs all is = same_all (items a) xs p.0 all (sym p.1 ∙ is)
        only_reading items bytes (Err f) p q xs all is = only_memory bytes xs f all is q

        pub only_fault : {R : Type 0} (items : R → List A) (bytes : List ℕ) (r : Result R F) →
            IfOk r (λ a. AllByRecursion May (items a) × (bytes ≡ text_of (items a))) → IfErr r (λ f. IsFault bytes f) → (k : ℕ) →
            IsFault bytes (bad k) → MatchResult r (λ _. ⊥) (λ f. (f ≡ memory) ⊎ (f ≡ bad k))
        only_fault items bytes (Ok a) p q k is = faultless bytes (items a) k p.0 p.1 (is_bad bytes k is)
        only_fault items bytes (Err f) p q k is = one_fault bytes f k q is
