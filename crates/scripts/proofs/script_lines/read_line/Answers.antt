use Rattle.scripts.proofs.Found.{if_none}
use Rattle.scripts.proofs.Offers.{lacks_by_text}
use Rattle.scripts.proofs.script_lines.read_line.Goals as goal

pub returns-in_err-offered-clause-none : goal.returns-in_err-offered-clause-none
returns-in_err-offered-clause-none c = if_none c.from_residual-in_err-offered.result _ (lacks_by_text c.args.harts c.args.bytes.now c.in_ok-text.text.now
    c.in_ok-text.behind.now c.in_ok-text.ensures.one c.in_ok-text.ensures.found c.in_err-offered.ensures.none)
