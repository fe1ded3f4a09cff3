use Rattle.std.proofs.Common.{ℕ, [], ◌∷◌, refl, arith}
use Rattle.std.specs.Prelude.{codes, decimal}
use Rattle.wire.specs.Values.{IsTerm}
use Rattle.wire.proofs.Plain.{name_plain}
use Rattle.wire.proofs.Reading.{exact_sealed, exact_unsealed}
use Rattle.wire.proofs.Values.{number_plain, number_same}
use Rattle.wire.proofs.fences.read_fence.Goals as goal

pub read_sealed-requires : goal.read_sealed-requires
read_sealed-requires c = name_plain (codes "fence") refl

pub returns-in_err-fields : goal.returns-in_err-fields
returns-in_err-fields c = record {
  exact = exact_unsealed c.args.guest.now c.args.text.now (codes "fence") IsTerm (λ (t : ℕ). decimal t ∷ []) c.from_residual.result
      c.from_residual.ensures c.in_err-fields.ensures.none (λ t is. number_plain t (omega (arith, is.1)));
}

pub returns : goal.returns
returns c = record {
  exact = exact_sealed c.args.guest.now c.args.text.now (codes "fence") c.in_ok-fields.fields IsTerm (λ (t : ℕ). decimal t ∷ []) c.term_of.result
      c.in_ok-fields.ensures.found c.in_ok-fields.ensures.one (λ t is. number_plain t (omega (arith, is.1)))
      (λ t u p q e. number_same t u (omega (arith, p.1)) (omega (arith, q.1)) e) c.term_of.ensures.found c.term_of.ensures.none;
}
