-- Packets that would change the past.
use Rattle.std.proofs.Common.{◌≡◌, ℕ, zero, suc, slice_index_or, Contains, refl, ◌<◌, subst, arith}
use Rattle.std.specs.Prelude.{codes}
use Rattle.debugging.specs.declared.commands.Kind.TheVariants.{Changes}
use Rattle.debugging.specs.Commands.{kind_of}

at_index : (first i : ℕ) → i < 4 → slice_index_or (codes "GPMX") i first ≡ first → kind_of first ≡ Changes
at_index first zero h e = subst (λ (k : ℕ). kind_of k ≡ Changes) e refl
at_index first (suc zero) h e = subst (λ (k : ℕ). kind_of k ≡ Changes) e refl
at_index first (suc (suc zero)) h e = subst (λ (k : ℕ). kind_of k ≡ Changes) e refl
at_index first (suc (suc (suc zero))) h e = subst (λ (k : ℕ). kind_of k ≡ Changes) e refl
at_index first (suc (suc (suc (suc i)))) h e = absurd (omega arith)

-- they begin with one of these bytes
pub changing : (first : ℕ) → Contains (codes "GPMX") first → kind_of first ≡ Changes
changing first c = at_index first c.0 c.1 c.2
