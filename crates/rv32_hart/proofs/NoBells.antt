-- A hart at the start has neither rung nor heard a bell.
use Rattle.std.proofs.Common.{◌≡◌, ◌≤◌, ℕ, zero, suc, replicate, refl, sym, ◌∙◌, arith, slice_index}
use Rattle.std.specs.Prelude.{sum}
use Rattle.std.proofs.lemmas.List.{length-replicate}
use Rattle.std.proofs.lemmas.List.Folds.{sum_by-replicate}
use Rattle.ft_types.specs.declared.names.TheConstants.{HART_ROW}
use Rattle.rv32_hart.specs.machinery.Kept.{IsCounted}

none_at : (n hart : ℕ) → slice_index (replicate n 0) hart ≡ 0
none_at zero hart = refl
none_at (suc n) zero = refl
none_at (suc n) (suc hart) = none_at n hart

none_in_all : (n : ℕ) → sum (replicate n 0) ≡ 0
none_in_all n = sum_by-replicate (λ x. x) n 0 ∙ omega arith

pub none_counted : IsCounted (replicate HART_ROW 0) (replicate HART_ROW 0) 0
none_counted =
    record {
      bells = λ source. rw (none_at HART_ROW source) (omega arith);
      limit = omega arith;
      sources = length-replicate {A = ℕ} HART_ROW 0;
      targets = length-replicate {A = ℕ} HART_ROW 0;
    }

pub none_rung : (target : ℕ) → slice_index (replicate HART_ROW 0) target ≤ 0
none_rung target = rw (none_at HART_ROW target) (omega arith)

pub none_rung_in_all : 0 ≡ sum (replicate HART_ROW 0)
none_rung_in_all = sym (none_in_all HART_ROW)
