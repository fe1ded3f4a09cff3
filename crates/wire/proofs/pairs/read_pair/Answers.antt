use Rattle.std.proofs.Common.{refl}
use Rattle.std.specs.Prelude.{codes}
use Rattle.wire.specs.Pairs.{IsPair, pair_fields}
use Rattle.wire.proofs.Plain.{name_plain}
use Rattle.wire.proofs.Reading.{exact_sealed, exact_unsealed}
use Rattle.wire.proofs.PairFields.{pair_plain, pair_same}
use Rattle.wire.proofs.pairs.read_pair.Goals as goal

pub returns-in_err-fields : goal.returns-in_err-fields
returns-in_err-fields c = record {
  exact = exact_unsealed c.args.guest.now c.args.text.now (codes "pair") IsPair pair_fields c.from_residual.result
      c.from_residual.ensures c.in_err-fields.ensures.none pair_plain;
}

pub returns : goal.returns
returns c = record {
  exact = exact_sealed c.args.guest.now c.args.text.now (codes "pair") c.in_ok-fields.fields IsPair pair_fields c.pair_of.result
      c.in_ok-fields.ensures.found c.in_ok-fields.ensures.one pair_plain pair_same c.pair_of.ensures.found c.pair_of.ensures.none;
}
