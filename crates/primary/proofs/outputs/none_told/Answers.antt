use Rattle.std.proofs.Common.{◌≡◌, ℕ, zero, suc, slice_index, replicate, refl}
use Rattle.ft_types.specs.declared.names.TheConstants.{HART_ROW}
use Rattle.primary.proofs.outputs.none_told.Goals as goal

none_at : (n hart : ℕ) → slice_index (replicate n 0) hart ≡ 0
none_at zero hart = refl
none_at (suc n) zero = refl
none_at (suc n) (suc hart) = none_at n hart

pub returns : goal.returns
returns c = none_at HART_ROW
