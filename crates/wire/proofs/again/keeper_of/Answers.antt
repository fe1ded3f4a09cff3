use Rattle.std.proofs.lemmas.Bool.{false≢true}
use Rattle.wire.proofs.Reading.{if_none, tails}
use Rattle.wire.proofs.again.keeper_of.Goals as goal

pub returns-in_err-keeper-clause-none : goal.returns-in_err-keeper-clause-none
returns-in_err-keeper-clause-none c = if_none c.from_residual.result _ (λ k p. c.in_err-keeper.ensures.none k _ p.0 p.1)

pub returns-else-is_done-clause-none : goal.returns-else-is_done-clause-none
returns-else-is_done-clause-none c = λ k p. false≢true (c.if-is_done.ensures.1 (tails _ _ _ _ _ c.in_ok-keeper.ensures.found.1 p.1))
