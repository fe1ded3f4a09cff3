use Rattle.std.proofs.Common.{◌≡◌, ℕ, zero, suc, false, replicate, slice_index_or, refl}
use Rattle.ft_types.specs.declared.names.TheConstants.{HART_ROW}
use Rattle.tracked_position.proofs.held.no_flags.Goals as goal

unset_at : (n hart : ℕ) → slice_index_or (replicate n false) hart false ≡ false
unset_at zero hart = refl
unset_at (suc n) zero = refl
unset_at (suc n) (suc hart) = unset_at n hart

pub returns : goal.returns
returns c = unset_at HART_ROW
