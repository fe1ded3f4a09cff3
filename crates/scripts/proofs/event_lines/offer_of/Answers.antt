use Rattle.scripts.proofs.Found.{if_none}
use Rattle.scripts.proofs.Names.{no_field, no_hart, no_word}
use Rattle.scripts.proofs.event_lines.offer_of.Goals as goal

pub returns-in_err-number-clause-none : goal.returns-in_err-number-clause-none
returns-in_err-number-clause-none c = if_none c.from_residual.result _ (no_field c.args.harts c.args.text.now c.in_err-number.ensures.none)

pub returns-in_err-hart-clause-none : goal.returns-in_err-hart-clause-none
returns-in_err-hart-clause-none c = if_none c.from_residual-in_err-hart.result _ (no_hart c.args.harts c.args.text.now c.in_ok-number.number.now
    c.in_ok-number.behind.now c.in_ok-number.ensures.one c.in_ok-number.ensures.found c.in_err-hart.ensures.none)

pub returns-in_err-word-clause-none : goal.returns-in_err-word-clause-none
returns-in_err-word-clause-none c = if_none c.from_residual-in_err-word.result _ (no_word c.args.harts c.args.text.now c.in_ok-number.number.now
    c.in_ok-number.behind.now c.in_ok-number.ensures.one c.in_ok-number.ensures.found c.in_err-word.ensures.none)
