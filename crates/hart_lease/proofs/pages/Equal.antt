-- What `==` says of the counts of pages.
use Rattle.std.proofs.Common.{◌≡◌, ◌==◌, ◌&&◌, ℕ, Bool, true, false, Option, None, Some, refl, ap, ◌∙◌}
use Rattle.std.specs.Bool.{Decides}
use Rattle.std.specs.Option.{option_eq}
use Rattle.std.proofs.lemmas.Bool.Decides.{Decides-eqb}
use Rattle.hart_lease.specs.declared.taken.Taken.{Taken}

-- options are compared as what is in them
pub option_decides : {A : Type 0} {E : A → A → Bool} → ((a b : A) → Decides (E a b) (a ≡ b)) → (a b : Option A) → Decides (option_eq E a b) (a ≡ b)
option_decides each None None = (λ e. refl, λ e. refl)
option_decides each None (Some b) = (λ e. cc, λ e. cc)
option_decides each (Some a) None = (λ e. cc, λ e. cc)
option_decides each (Some a) (Some b) = let d = each a b in (λ e. ap (λ x. Some x) (d.0 e), λ e. d.1 (let same : a ≡ b = cc in same))

both : (p q : Bool) → (p && q) ≡ true → (p ≡ true) × (q ≡ true)
both true q e = (refl, e)
both false q e = cc

pub taken_decides : (a b : Taken) → Decides ((a.read_at == b.read_at) && option_eq (λ x y. x == y) a.write_at b.write_at) (a ≡ b)
taken_decides a b =
    let read = Decides-eqb a.read_at b.read_at in
    let write = option_decides Decides-eqb a.write_at b.write_at in (
      λ e.
          let told = both (a.read_at == b.read_at) (option_eq (λ x y. x == y) a.write_at b.write_at) e in
          ap (λ (n : ℕ). let t : Taken = record { read_at = n; write_at = a.write_at } in t) (read.0 told.0)
          ∙ ap (λ (w : Option ℕ). let t : Taken = record { read_at = b.read_at; write_at = w } in t) (write.0 told.1),
      λ e. rw (read.1 (ap (λ (t : Taken). t.read_at) e)) (write.1 (ap (λ (t : Taken). t.write_at) e)),
    )
