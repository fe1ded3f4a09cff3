use Rattle.std.proofs.Common.{refl}
use Rattle.std.specs.Prelude.{codes}
use Rattle.wire.specs.Handed.{IsHanded, handed_fields}
use Rattle.wire.proofs.Plain.{name_plain}
use Rattle.wire.proofs.Reading.{exact_sealed, exact_unsealed}
use Rattle.wire.proofs.Values.{handed_plain, handed_same}
use Rattle.wire.proofs.handed.read_handed.Goals as goal

pub read_sealed-requires : goal.read_sealed-requires
read_sealed-requires c = name_plain (codes "handed") refl

pub returns-in_err-fields : goal.returns-in_err-fields
returns-in_err-fields c = record {
  exact = exact_unsealed c.args.guest.now c.args.text.now (codes "handed") IsHanded handed_fields c.from_residual.result
      c.from_residual.ensures c.in_err-fields.ensures.none handed_plain;
}

pub returns : goal.returns
returns c = record {
  exact = exact_sealed c.args.guest.now c.args.text.now (codes "handed") c.in_ok-fields.fields IsHanded handed_fields c.handed_of.result
      c.in_ok-fields.ensures.found c.in_ok-fields.ensures.one handed_plain handed_same c.handed_of.ensures.found c.handed_of.ensures.none;
}
