-- Tables with a value for each hart.
use Rattle.std.proofs.Common.{◌≡◌, ◌≢◌, ℕ, zero, suc, ◌-◌, List, [], ◌∷◌, ◌++◌, get_or, length, take, length-append, arith, inl, inr, refl}
use Rattle.std.proofs.Common.{sym, ◌∙◌, ◌+◌, ◌<◌, slice_set, slice_index_or}
use Rattle.std.specs.List.{AllByRecursion}
use Rattle.std.proofs.Math.Seq.{take-append_seam}
use Rattle.std.proofs.lemmas.Bool.{cases_eq}
use Rattle.std.proofs.lemmas.List.{get_or-set_same, get_or-set_other, get_or_default}
use Rattle.std.proofs.lemmas.List.{ext_get_or}
use Rattle.ft_types.specs.declared.names.TheConstants.{HART_ROW}

module _ {A : Type 0} where
  -- where all are the same, each is
  pub all_same : (xs : List A) (d : A) → AllByRecursion (λ x. x ≡ d) xs → (h : ℕ) → get_or xs h d ≡ d
  all_same [] d same h = refl
  all_same (x ∷ xs) d same zero = same.0
  all_same (x ∷ xs) d same (suc h) = all_same xs d same.1 h

  -- two tables are the same where they are so at one hart and at each other
  pub same_rows : (d : A) (xs ys : List A) (h : ℕ) → length xs ≡ HART_ROW → length ys ≡ HART_ROW → get_or xs h d ≡ get_or ys h d →
      ((other : ℕ) → other ≢ h → get_or xs other d ≡ get_or ys other d) → xs ≡ ys
  same_rows d xs ys h wide wide' here there =
      ext_get_or d xs ys (wide ∙ sym wide')
      (λ i below.
      elim (cases_eq i h) [
        | inl same ↦ rw same here
        | inr ne ↦ there i ne
      ])

  -- what is left of a list without what was put behind it
  pub front_left : (xs added : List A) (n : ℕ) → length added ≡ n → take (length (xs ++ added) - n) (xs ++ added) ≡ xs
  front_left xs added n size =
      let k : length (xs ++ added) - n ≡ length xs = omega (arith, length-append xs added) in
      rw k (take-append_seam xs added)

  -- a table that is another one's copy as far as this place, and gets what the other has there, is so further
  pub one_copied : (old new : List A) (n : ℕ) (was x : A) → n < length old → length new ≡ length old → x ≡ slice_index_or old n was →
      ((i : ℕ) (d : A) → i < n → slice_index_or new i d ≡ slice_index_or old i d) → (i : ℕ) (d : A) → i < n + 1 →
      slice_index_or (slice_set new n x) i d ≡ slice_index_or old i d
  one_copied old new n was x lt many is before i d below =
      elim (cases_eq i n) [
        | inl same ↦ rw same (get_or-set_same new n x d (omega (arith, lt, many)) ∙ (is ∙ get_or_default old n was d lt))
        | inr other ↦ get_or-set_other new n i x d other ∙ before i d (omega (arith, below, other))
      ]
