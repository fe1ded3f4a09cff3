use Rattle.std.proofs.lemmas.Bool.{false≢true}
use Rattle.std.proofs.Common.{map, sym, ◌∙◌}
use Rattle.std.specs.Prelude.{decimal}
use Rattle.std.proofs.lemmas.List.{append-nil}
use Rattle.wire.proofs.Reading.{if_none, tails}
use Rattle.wire.proofs.Rows.{nothing_behind}
use Rattle.wire.proofs.acknowledgements.acknowledgement_of.Goals as goal

pub returns-in_err-term-clause-none : goal.returns-in_err-term-clause-none
returns-in_err-term-clause-none c = if_none c.from_residual.result _
    (λ a p. c.in_err-term.ensures.none a.term _ p.0.term p.1)

pub returns-in_err-keeper-clause-none : goal.returns-in_err-keeper-clause-none
returns-in_err-keeper-clause-none c = if_none c.from_residual-in_err-keeper.result _
    (λ a p. c.in_err-keeper.ensures.none a.keeper _ p.0.keeper (tails _ _ _ _ _ c.in_ok-term.ensures.found.1 p.1))

pub returns-in_err-counts-clause-none : goal.returns-in_err-counts-clause-none
returns-in_err-counts-clause-none c = if_none c.from_residual-in_err-counts.result _
    (λ a p. c.in_err-counts.ensures.none a.counts _ p.0.row p.0.counts
    (tails _ _ _ _ _ c.in_ok-keeper.ensures.found.1 (tails _ _ _ _ _ c.in_ok-term.ensures.found.1 p.1) ∙ sym (append-nil (map decimal a.counts))))

pub returns-else-is_done-clause-none : goal.returns-else-is_done-clause-none
returns-else-is_done-clause-none c = λ a p. false≢true (c.if-is_done.ensures.1 (nothing_behind c.in_ok-counts.counts a.counts _ _ (c.in_ok-counts.ensures.found.0 ∙ sym p.0.row) c.in_ok-counts.ensures.found.1
    (tails _ _ _ _ _ c.in_ok-keeper.ensures.found.1 (tails _ _ _ _ _ c.in_ok-term.ensures.found.1 p.1))))
