use Rattle.std.proofs.Common.{◌≡◌, ◌^◌, ◌≤◌, ℕ, zero, suc, slice_index, replicate, refl, arith}
use Rattle.std.specs.List.{AllByRecursion}
use Rattle.std.proofs.lemmas.List.{length-replicate}
use Rattle.ft_types.specs.declared.names.TheConstants.{HART_ROW}
use Rattle.log_pieces.proofs.sealed.first_places.Goals as goal

first_at : (n hart : ℕ) → slice_index (replicate n 0) hart ≡ 0
first_at zero hart = refl
first_at (suc n) zero = refl
first_at (suc n) (suc hart) = first_at n hart

all_first : (n : ℕ) → AllByRecursion (λ place. place ≤ 2 ^ 32) (replicate n 0)
all_first zero = tt
all_first (suc n) = (omega arith, all_first n)

pub returns-clause-places : goal.returns-clause-places
returns-clause-places c = record { many = length-replicate {A = ℕ} HART_ROW 0; below = all_first HART_ROW }

pub returns-clause-first : goal.returns-clause-first
returns-clause-first c = first_at HART_ROW
