use Rattle.std.specs.Prelude.{◌∷◌}
use Rattle.std.proofs.Common.{◌∙◌, sym}
use Rattle.wire.specs.Fields.{spelling}
use Rattle.wire.proofs.Reading.{if_none, opened, opened_as, opened_one}
use Rattle.wire.proofs.seals.read_sealed.Goals as goal

pub returns-in_err-unsealed-clause-none : goal.returns-in_err-unsealed-clause-none
returns-in_err-unsealed-clause-none c = if_none c.from_residual.result _ (λ others plain e. c.in_err-unsealed.ensures.none (spelling (c.args.name.now ∷ others)) e)

pub returns-in_err-take_name-clause-none : goal.returns-in_err-take_name-clause-none
returns-in_err-take_name-clause-none c = if_none c.from_residual-in_err-take_name.result _ (λ others plain e. c.in_err-take_name.ensures.none others
    (c.new-fields.ensures ∙ opened_as c.args.guest.now c.args.bytes.now c.in_ok-unsealed.field-0.now c.args.name.now others c.in_ok-unsealed.ensures.found
    c.requires plain e))

pub returns-clause-found : goal.returns-clause-found
returns-clause-found c = opened c.args.guest.now c.args.bytes.now c.in_ok-unsealed.field-0.now c.args.name.now c.take_name.new.self
    c.in_ok-unsealed.ensures.found (sym c.new-fields.ensures ∙ c.in_ok-take_name.ensures.found)

pub returns-clause-one : goal.returns-clause-one
returns-clause-one c = λ others plain e. opened_one c.args.guest.now c.args.bytes.now c.in_ok-unsealed.field-0.now c.args.name.now c.take_name.new.self others
    c.in_ok-unsealed.ensures.found (sym c.new-fields.ensures ∙ c.in_ok-take_name.ensures.found) c.requires plain e
