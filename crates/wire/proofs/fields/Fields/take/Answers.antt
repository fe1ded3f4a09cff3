use Rattle.std.proofs.Common.{sym, ap, ◌∙◌}
use Rattle.std.specs.Prelude.{option_map}
use Rattle.wire.specs.Fields.{fields_left}
use Rattle.wire.proofs.Reading.{first_field}
use Rattle.wire.proofs.fields.Fields.take.Goals as goal

pub returns-clause-found : goal.returns-clause-found
returns-clause-found c = sym c.self.view_is ∙ ap (λ rest. fields_left (option_map (λ text. text.now) rest)) c.in_ok-self.was
    ∙ first_field (λ text. text.now) c.cut.result.1 c.in_ok-self.field-0.now c.cut.result.0.now c.cut.ensures.one c.cut.ensures.some c.cut.ensures.none
