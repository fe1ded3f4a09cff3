use Rattle.std.proofs.Common.{◌≡◌, ◌<◌, ◌≤◌, ℕ, zero, suc, replicate, slice_index, arith, le_refl}
use Rattle.std.proofs.lemmas.List.{get_or-replicate}
use Rattle.ft_types.specs.declared.names.TheConstants.{HART_ROW}
use Rattle.closed_cut.proofs.lowering.ends_at.Goals as goal

most_at : (n end hart : ℕ) → slice_index (replicate n end) hart ≤ end
most_at zero end hart = omega arith
most_at (suc n) end zero = le_refl end
most_at (suc n) end (suc hart) = most_at n end hart

pub returns-clause-each : goal.returns-clause-each
returns-clause-each c = λ hart below. get_or-replicate HART_ROW hart c.args.end 0 (omega (arith, below))

pub returns-clause-most : goal.returns-clause-most
returns-clause-most c = most_at HART_ROW c.args.end
