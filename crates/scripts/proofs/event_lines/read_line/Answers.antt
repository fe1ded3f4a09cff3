use Rattle.scripts.proofs.Found.{from_none}
use Rattle.scripts.proofs.Names.{lacks_by_text}
use Rattle.scripts.proofs.event_lines.read_line.Goals as goal

pub returns-in-None-clause-none : goal.returns-in-None-clause-none
returns-in-None-clause-none c = lacks_by_text c.args.harts c.args.bytes.now c.in-Some.text.now c.in-Some.behind.now c.in-Some.ensures.one
    c.in-Some.ensures.found (from_none c.in_ok-event.field-0 _ c.in-None.is c.in_ok-event.ensures.none)
