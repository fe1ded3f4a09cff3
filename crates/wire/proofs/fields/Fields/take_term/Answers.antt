use Rattle.std.proofs.Common.{◌≡◌, arith}
use Rattle.std.proofs.lemmas.Fmt.{decimal_injective}
use Rattle.wire.proofs.Reading.{heads}
use Rattle.wire.proofs.fields.Fields.take_term.Goals as goal

pub returns-else-term-gt0-clause-none : goal.returns-else-term-gt0-clause-none
returns-else-term-gt0-clause-none c = λ t rest is e.
    let same : c.in_ok-term.term ≡ t = decimal_injective c.in_ok-term.term t (omega (arith, c.in_ok-term.ensures.found.0)) (omega (arith, is.1))
    (heads _ _ _ _ _ c.in_ok-term.ensures.found.1 e) in
    omega (arith, is.0)
