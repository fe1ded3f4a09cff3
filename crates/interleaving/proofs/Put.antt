-- `put`: a function changed at one place.
use Rattle.std.proofs.Common.{◌≡◌, ◌≢◌, ◌⊎◌, inl, inr, ℕ, ◌+◌, ◌≤◌, Option, Some, None, MatchOption, refl, sym, ap, ◌∙◌, arith, eq-eqb, ne_eqb}
use Rattle.std.proofs.lemmas.Bool.Decides.{eqb_tells}
use Rattle.interleaving.specs.Lists.{put}
use Rattle.interleaving.specs.Machine.{Write, written}
use Rattle.interleaving.specs.Log.{bump}

pub same_or_not : (a b : ℕ) → (a ≡ b) ⊎ (a ≢ b)
same_or_not a b = elim (eqb_tells a b) [ inl h ↦ inl h.1 | inr h ↦ inr h.1 ]

pub put_same : {A : Type 0} (f : ℕ → A) (i j : ℕ) (x : A) → i ≡ j → put f i x j ≡ x
put_same f i j x e = rw (eq-eqb i j e) refl

pub put_other : {A : Type 0} (f : ℕ → A) (i j : ℕ) (x : A) → i ≢ j → put f i x j ≡ f j
put_other f i j x ne = rw (ne_eqb i j ne) refl

-- writes at two places, in either order
pub put_swap : {A : Type 0} (f : ℕ → A) (i j : ℕ) (x y : A) → i ≢ j → put (put f i x) j y ≡ put (put f j y) i x
put_swap {A} f i j x y ne = λ p k. at_each k (same_or_not i k) (same_or_not j k) p
  where
    at_each : (k : ℕ) → (i ≡ k) ⊎ (i ≢ k) → (j ≡ k) ⊎ (j ≢ k) → put (put f i x) j y k ≡ put (put f j y) i x k
    at_each k (inl ik) (inl jk) = absurd (ne (ik ∙ sym jk))
    at_each k (inl ik) (inr jk) =
        put_other (put f i x) j k y jk ∙ (put_same f i k x ik ∙ sym (put_same (put f j y) i k x ik))
    at_each k (inr ik) (inl jk) =
        put_same (put f i x) j k y jk ∙ (sym (put_same f j k y jk) ∙ sym (put_other (put f j y) i k x ik))
    at_each k (inr ik) (inr jk) =
        put_other (put f i x) j k y jk ∙
        (put_other f i k x ik ∙ (sym (put_other f j k y jk) ∙ sym (put_other (put f j y) i k x ik)))

-- the page is not written
pub written_other : {Page : Type 0} (pages : ℕ → Page) (w : Option (Write Page)) (page : ℕ) →
    (MatchOption w ⊥ (λ w. w.page ≡ page) → ⊥) → written pages w page ≡ pages page
written_other pages None page unwritten = refl
written_other pages (Some w) page unwritten = put_other pages w.page page w.contents unwritten

pub written_swap : {Page : Type 0} (pages : ℕ → Page) (v w : Option (Write Page)) →
    ((page : ℕ) → MatchOption v ⊥ (λ v. v.page ≡ page) → MatchOption w ⊥ (λ w. w.page ≡ page) → ⊥) →
    written (written pages v) w ≡ written (written pages w) v
written_swap pages None w apart = refl
written_swap pages (Some v) None apart = refl
written_swap pages (Some v) (Some w) apart =
    put_swap pages v.page w.page v.contents w.contents (λ e. apart w.page e refl)

pub bump_same : (now : ℕ → ℕ) (i : ℕ) → bump now i i ≡ now i + 1
bump_same now i = put_same now i i (now i + 1) refl

pub bump_other : (now : ℕ → ℕ) (i j : ℕ) → i ≢ j → bump now i j ≡ now j
bump_other now i j = put_other now i j (now i + 1)

pub bump_le : (now : ℕ → ℕ) (i j : ℕ) → now j ≤ bump now i j
bump_le now i j = either (same_or_not i j)
  where
    either : (i ≡ j) ⊎ (i ≢ j) → now j ≤ bump now i j
    either (inl e) =
        let f : bump now i j ≡ now i + 1 = put_same now i j (now i + 1) e in
        let g : now i ≡ now j = ap now e in omega arith
    either (inr ne) = let f : bump now i j ≡ now j = bump_other now i j ne in omega arith

-- the other hart's count is as it was
pub bump_swap : (now : ℕ → ℕ) (i j : ℕ) → i ≢ j → bump (bump now i) j ≡ bump (bump now j) i
bump_swap now i j ne =
    ap (λ n. put (bump now i) j (n + 1)) (bump_other now i j ne) ∙
    (put_swap now i j (now i + 1) (now j + 1) ne ∙
    ap (λ n. put (bump now j) i (n + 1)) (sym (bump_other now j i (λ e. ne (sym e)))))
