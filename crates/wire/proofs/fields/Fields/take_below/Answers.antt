use Rattle.std.proofs.Common.{◌≡◌, sym, ◌∙◌, arith}
use Rattle.std.proofs.lemmas.Fmt.{decimal_injective}
use Rattle.wire.proofs.Reading.{heads}
use Rattle.wire.proofs.fields.Fields.take_below.Goals as goal

pub returns-else-number-limit-clause-none : goal.returns-else-number-limit-clause-none
returns-else-number-limit-clause-none c = λ n rest small e.
    let text = sym c.in_ok-number.ensures.found.1 ∙ heads _ _ _ _ _ c.in_ok-take.ensures.found e in
    let same : c.in_ok-number.number ≡ n =
    decimal_injective c.in_ok-number.number n (omega (arith, c.in_ok-number.ensures.found.0)) (omega (arith, small)) text in
    omega (arith, small)
