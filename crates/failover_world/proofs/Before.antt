-- The terms of the primaries that stopped stay as they are, while the last one's changes and a new one comes.
use Rattle.std.proofs.Common.{◌≡◌, ◌⊎◌, inl, inr, ℕ, zero, ◌<◌, List, [], ◌∷◌, ◌++◌, Contains, Some, suc, sym, ap, subst, ◌∙◌, arith}
use Rattle.std.proofs.lemmas.List.Elements.{Contains-append_left, Contains-append_cases, Contains-push}
use Rattle.interleaving.specs.Lists.{put}
use Rattle.interleaving.proofs.Put.{same_or_not, put_other}
use Rattle.hart_replay.specs.Primaries.{term_of as history_of, IsTermOfBook}
use Rattle.log_join.specs.Families.{Past, Family}
use Rattle.primary.specs.declared.granted.Primary.{Primary}
use Rattle.failover_world.specs.machinery.Tied.{TermBook, retold, IsBefore}

only_one : {A : Type 0} (x y : A) → Contains (x ∷ []) y → x ≡ y
only_one x y (zero, below, same) = same
only_one x y (suc k, below, same) = absurd (omega (arith, below))

-- one of those that stopped, or the one that stops
pub stopped_or_now : {A : Type 0} (xs : List A) (x y : A) → Contains (xs ++ x ∷ []) y → Contains xs y ⊎ (x ≡ y)
stopped_or_now xs x y has = elim (Contains-append_cases xs (x ∷ []) y has) [ inl old ↦ inl old | inr new ↦ inr (only_one x y new) ]

module _ {pages : ℕ} (terms : Family (TermBook pages)) where
  -- each number is that of the last, or of one that stopped
  abbrev pub NoOther : ℕ → List Primary → Type 0
  NoOther last stopped =
      (u : ℕ) (p : Past (TermBook pages)) → terms u ≡ Some p → (u ≡ last) ⊎ ((q : Primary) × Contains stopped q × (q.opening.term ≡ u))

  -- a later term comes, or the last one's changes
  pub still_before : (last now : ℕ) (x : Past (TermBook pages)) (p : Primary) → IsBefore terms last p → p.opening.term < now → IsBefore (put terms now (Some x)) now p
  still_before last now x p is earlier =
      record {
        past = is.past;
        there = put_other terms now p.opening.term (Some x) (λ e. absurd (omega (arith, earlier, e))) ∙ is.there;
        opening = is.opening;
        of_book = is.of_book;
        earlier = earlier;
      }

  pub no_other_still : (last : ℕ) (stopped : List Primary) (x : Past (TermBook pages)) → NoOther last stopped →
      (u : ℕ) (p : Past (TermBook pages)) → put terms last (Some x) u ≡ Some p → (u ≡ last) ⊎ ((q : Primary) × Contains stopped q × (q.opening.term ≡ u))
  no_other_still last stopped x none u p at =
      elim (same_or_not last u) [
        | inl same ↦ inl (sym same)
        | inr other ↦ none u p (sym (put_other terms last u (Some x) other) ∙ at)
      ]

  pub no_other_with : (last now : ℕ) (stopped : List Primary) (q : Primary) (x : Past (TermBook pages)) → q.opening.term ≡ last → NoOther last stopped →
      (u : ℕ) (p : Past (TermBook pages)) → put terms now (Some x) u ≡ Some p →
      (u ≡ now) ⊎ ((r : Primary) × Contains (stopped ++ q ∷ []) r × (r.opening.term ≡ u))
  no_other_with last now stopped q x its none u p at =
      elim (same_or_not now u) [
        | inl same ↦ inl (sym same)
        | inr other ↦
            elim (none u p (sym (put_other terms now u (Some x) other) ∙ at)) [
              | inl was_last ↦ inr (q, Contains-push stopped q, its ∙ sym was_last)
              | inr (r, has, is) ↦ inr (r, Contains-append_left stopped (q ∷ []) r has, is)
            ]
      ]

  -- the last one stops, and a later term comes
  pub before_now : (last now : ℕ) (stopped : List Primary) (q : Primary) (old x : Past (TermBook pages)) → last < now → q.opening.term ≡ last →
      terms last ≡ Some old → old.opening ≡ q.opening → IsTermOfBook q.book (retold (λ t. history_of t.book) old) →
      ((p : Primary) → Contains stopped p → IsBefore terms last p) →
      (p : Primary) → Contains (stopped ++ q ∷ []) p → IsBefore (put terms now (Some x)) now p
  before_now last now stopped q old x later its there opening of_book all p has =
      elim (stopped_or_now stopped q p has) [
        | inl was ↦ let is = all p was in let less = is.earlier in still_before last now x p is (omega (arith, less, later))
        | inr same ↦
            subst (IsBefore (put terms now (Some x)) now) same
            (record {
              past = old;
              there = put_other terms now q.opening.term (Some x) (λ e. absurd (omega (arith, later, its, e))) ∙ ap terms its ∙ there;
              opening = opening;
              of_book = of_book;
              earlier = omega (arith, later, its);
            })
      ]
