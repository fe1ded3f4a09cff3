use Rattle.std.proofs.lemmas.Bool.{false≢true}
use Rattle.wire.proofs.Reading.{if_none, tails}
use Rattle.wire.proofs.handed.handed_of.Goals as goal

pub returns-in_err-term-clause-none : goal.returns-in_err-term-clause-none
returns-in_err-term-clause-none c = if_none c.from_residual.result _ (λ h p. c.in_err-term.ensures.none h.term _ p.0.term p.1)

pub returns-in_err-keeper-clause-none : goal.returns-in_err-keeper-clause-none
returns-in_err-keeper-clause-none c = if_none c.from_residual-in_err-keeper.result _
    (λ h p. c.in_err-keeper.ensures.none h.keeper _ p.0.keeper (tails _ _ _ _ _ c.in_ok-term.ensures.found.1 p.1))

pub returns-in_err-length-clause-none : goal.returns-in_err-length-clause-none
returns-in_err-length-clause-none c = if_none c.from_residual-in_err-length.result _
    (λ h p. c.in_err-length.ensures.none h.length _ p.0.length
    (tails _ _ _ _ _ c.in_ok-keeper.ensures.found.1 (tails _ _ _ _ _ c.in_ok-term.ensures.found.1 p.1)))

pub returns-else-is_done-clause-none : goal.returns-else-is_done-clause-none
returns-else-is_done-clause-none c = λ h p. false≢true (c.if-is_done.ensures.1 (tails _ _ _ _ _ c.in_ok-length.ensures.found.1
    (tails _ _ _ _ _ c.in_ok-keeper.ensures.found.1 (tails _ _ _ _ _ c.in_ok-term.ensures.found.1 p.1))))
