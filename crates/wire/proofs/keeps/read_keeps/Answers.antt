use Rattle.std.proofs.Common.{refl}
use Rattle.std.specs.Prelude.{codes}
use Rattle.wire.specs.Pairs.{IsKeeps, keeps_fields}
use Rattle.wire.proofs.Plain.{name_plain}
use Rattle.wire.proofs.Reading.{exact_sealed, exact_unsealed}
use Rattle.wire.proofs.PairFields.{keeps_plain, keeps_same}
use Rattle.wire.proofs.keeps.read_keeps.Goals as goal

pub returns-in_err-fields : goal.returns-in_err-fields
returns-in_err-fields c = record {
  exact = exact_unsealed c.args.guest.now c.args.text.now (codes "keeps") IsKeeps keeps_fields c.from_residual.result
      c.from_residual.ensures c.in_err-fields.ensures.none keeps_plain;
}

pub returns : goal.returns
returns c = record {
  exact = exact_sealed c.args.guest.now c.args.text.now (codes "keeps") c.in_ok-fields.fields IsKeeps keeps_fields c.keeps_of.result
      c.in_ok-fields.ensures.found c.in_ok-fields.ensures.one keeps_plain keeps_same c.keeps_of.ensures.found c.keeps_of.ensures.none;
}
