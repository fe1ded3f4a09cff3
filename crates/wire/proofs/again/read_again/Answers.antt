use Rattle.std.proofs.Common.{ℕ, ◌<◌, [], ◌∷◌, refl, arith}
use Rattle.std.specs.Prelude.{codes, decimal}
use Rattle.ft_types.specs.declared.names.TheConstants.{KEEPER_LIMIT}
use Rattle.wire.proofs.Plain.{name_plain}
use Rattle.wire.proofs.Reading.{exact_sealed, exact_unsealed}
use Rattle.wire.proofs.Values.{number_plain, number_same}
use Rattle.wire.proofs.again.read_again.Goals as goal

pub read_sealed-requires : goal.read_sealed-requires
read_sealed-requires c = name_plain (codes "again") refl

pub returns-in_err-fields : goal.returns-in_err-fields
returns-in_err-fields c = record {
  exact = exact_unsealed c.args.guest.now c.args.text.now (codes "again") (λ (k : ℕ). k < KEEPER_LIMIT) (λ (k : ℕ). decimal k ∷ [])
      c.from_residual.result c.from_residual.ensures c.in_err-fields.ensures.none (λ k is. number_plain k (omega arith));
}

pub returns : goal.returns
returns c = record {
  exact = exact_sealed c.args.guest.now c.args.text.now (codes "again") c.in_ok-fields.fields (λ (k : ℕ). k < KEEPER_LIMIT) (λ (k : ℕ). decimal k ∷ [])
      c.keeper_of.result c.in_ok-fields.ensures.found c.in_ok-fields.ensures.one (λ k is. number_plain k (omega arith))
      (λ k j p q e. number_same k j (omega arith) (omega arith) e) c.keeper_of.ensures.found c.keeper_of.ensures.none;
}
