-- Functions that are changed at one place.
use Rattle.std.proofs.Common.{◌≡◌, ℕ, ◌==◌, Bool, true, false, if◌then◌else◌, inl, inr, refl, sym, ap, ◌∙◌}
use Rattle.std.proofs.Math.Path.{fun_ext}
use Rattle.interleaving.specs.Lists.{put}
use Rattle.interleaving.proofs.Put.{same_or_not, put_same, put_other}

-- a function with its own value put at a place
pub put_own : {A : Type 0} (f : ℕ → A) (n : ℕ) (x : A) → f n ≡ x → put f n x ≡ f
put_own f n x is =
    fun_ext
    (λ u.
    elim (same_or_not n u) [
      | inl same ↦ put_same f n u x same ∙ sym is ∙ ap f same
      | inr other ↦ put_other f n u x other
    ])

twice : {A : Type 0} (b : Bool) (x y z : A) → (if b then x else (if b then y else z)) ≡ (if b then x else z)
twice true x y z = refl
twice false x y z = refl

pub put_put : {A : Type 0} (f : ℕ → A) (n : ℕ) (x y : A) → put (put f n x) n y ≡ put f n y
put_put f n x y = fun_ext (λ u. twice (n == u) y x (f u))
