use Rattle.wire.proofs.Reading.{if_none, tails}
use Rattle.wire.proofs.answers.answer_of.Goals as goal

pub returns-in_err-hart-clause-none : goal.returns-in_err-hart-clause-none
returns-in_err-hart-clause-none c = if_none c.from_residual-in_err-hart.result _ (λ a p.
    let behind_term = tails _ _ _ _ _ c.in_ok-term.ensures.found.1 (tails _ _ _ _ _ c.in_ok-take_name.ensures.found p.1) in
    c.in_err-hart.ensures.none a.output.hart _ p.0.hart (tails _ _ _ _ _ c.in_ok-take_name-2.ensures.found behind_term))

pub returns-in_err-number-clause-none : goal.returns-in_err-number-clause-none
returns-in_err-number-clause-none c = if_none c.from_residual-in_err-number.result _ (λ a p.
    let behind_term = tails _ _ _ _ _ c.in_ok-term.ensures.found.1 (tails _ _ _ _ _ c.in_ok-take_name.ensures.found p.1) in
    let behind_hart = tails _ _ _ _ _ c.in_ok-hart.ensures.found.1 (tails _ _ _ _ _ c.in_ok-take_name-2.ensures.found behind_term) in
    c.in_err-number.ensures.none a.output.number _ p.0.number (tails _ _ _ _ _ c.in_ok-take_name-3.ensures.found behind_hart))

pub returns-in_err-step-clause-none : goal.returns-in_err-step-clause-none
returns-in_err-step-clause-none c = if_none c.from_residual-in_err-step.result _ (λ a p.
    let behind_term = tails _ _ _ _ _ c.in_ok-term.ensures.found.1 (tails _ _ _ _ _ c.in_ok-take_name.ensures.found p.1) in
    let behind_hart = tails _ _ _ _ _ c.in_ok-hart.ensures.found.1 (tails _ _ _ _ _ c.in_ok-take_name-2.ensures.found behind_term) in
    let behind_number = tails _ _ _ _ _ c.in_ok-number.ensures.found.1 (tails _ _ _ _ _ c.in_ok-take_name-3.ensures.found behind_hart) in
    c.in_err-step.ensures.none a.output.step _ p.0.step (tails _ _ _ _ _ c.in_ok-take_name-4.ensures.found behind_number))
