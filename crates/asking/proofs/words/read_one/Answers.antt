use Rattle.asking.proofs.Lines.{if_none, lacks_by_text}
use Rattle.asking.proofs.words.read_one.Goals as goal

pub returns-in_err-word-clause-none : goal.returns-in_err-word-clause-none
returns-in_err-word-clause-none c = if_none c.from_residual-in_err-word.result _ (lacks_by_text c.args.bytes.now c.in_ok-text.text.now
    c.in_ok-text.behind.now c.in_ok-text.ensures.one c.in_ok-text.ensures.found c.in_err-word.ensures.none)
