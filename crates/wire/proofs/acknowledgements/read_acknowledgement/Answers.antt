use Rattle.std.proofs.Common.{ℕ, refl, subst}
use Rattle.std.specs.Prelude.{codes, IfSome, IfNone}
use Rattle.wire.specs.Acknowledgements.{IsAcknowledgement, HasAcknowledgement, acknowledgement_fields}
use Rattle.wire.specs.declared.acknowledgements.Acknowledgement.{Acknowledgement}
use Rattle.wire.proofs.Plain.{name_plain}
use Rattle.wire.proofs.Reading.{exact_sealed, exact_unsealed}
use Rattle.wire.proofs.Values.{acknowledgement_plain, acknowledgement_same}
use Rattle.wire.proofs.acknowledgements.read_acknowledgement.Goals as goal

pub read_sealed-requires : goal.read_sealed-requires
read_sealed-requires c = name_plain (codes "ack") refl

pub returns-in_err-fields : goal.returns-in_err-fields
returns-in_err-fields c = record {
  exact = exact_unsealed c.args.guest.now c.args.text.now (codes "ack") (IsAcknowledgement c.args.guest.now.harts) acknowledgement_fields
      c.from_residual.result c.from_residual.ensures c.in_err-fields.ensures.none (acknowledgement_plain c.args.guest.now.harts);
}

pub returns : goal.returns
returns c =
    let harts = c.args.guest.now.harts in
    record {
      exact = (exact_sealed c.args.guest.now c.args.text.now (codes "ack") c.in_ok-fields.fields (IsAcknowledgement harts)
          acknowledgement_fields c.acknowledgement_of.result c.in_ok-fields.ensures.found c.in_ok-fields.ensures.one (acknowledgement_plain harts)
          (acknowledgement_same harts)
          (subst (λ (h : ℕ). IfSome c.acknowledgement_of.result (λ a. HasAcknowledgement h c.in_ok-fields.fields a)) c.harts.ensures.value
          c.acknowledgement_of.ensures.found)
          (subst (λ (h : ℕ). IfNone c.acknowledgement_of.result ((a : Acknowledgement) → HasAcknowledgement h c.in_ok-fields.fields a → ⊥)) c.harts.ensures.value
          c.acknowledgement_of.ensures.none));
    }
