use Rattle.std.proofs.lemmas.Bool.{false≢true}
use Rattle.wire.proofs.Reading.{if_none, tails}
use Rattle.wire.proofs.fences.term_of.Goals as goal

pub returns-in_err-term-clause-none : goal.returns-in_err-term-clause-none
returns-in_err-term-clause-none c = if_none c.from_residual.result _ (λ t p. c.in_err-term.ensures.none t _ p.0 p.1)

pub returns-else-is_done-clause-none : goal.returns-else-is_done-clause-none
returns-else-is_done-clause-none c = λ t p. false≢true (c.if-is_done.ensures.1 (tails _ _ _ _ _ c.in_ok-term.ensures.found.1 p.1))
