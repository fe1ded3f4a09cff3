use Rattle.debugging.proofs.session.Session.answer_note.Goals as goal

pub returns-clause-noted : goal.returns-clause-noted
returns-clause-noted c = (c.in_ok-is_right.is_right, c.in_ok-is_right.ensures.noted, c.in_ok-told.ensures)
