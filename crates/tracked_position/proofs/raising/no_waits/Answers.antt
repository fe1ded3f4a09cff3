use Rattle.std.proofs.Common.{◌≡◌, ℕ, zero, suc, Option, None, replicate, slice_index_or, refl}
use Rattle.ft_types.specs.declared.names.TheConstants.{HART_ROW}
use Rattle.tracked_position.proofs.raising.no_waits.Goals as goal

none_at : (n hart : ℕ) → slice_index_or {A = Option ℕ} (replicate n None) hart None ≡ None
none_at zero hart = refl
none_at (suc n) zero = refl
none_at (suc n) (suc hart) = none_at n hart

pub returns-clause-none : goal.returns-clause-none
returns-clause-none c = none_at HART_ROW
