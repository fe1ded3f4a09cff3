use Rattle.std.proofs.Common.{refl}
use Rattle.debugging.proofs.session.Session.tell_writer.Goals as goal

pub returns-clause-told : goal.returns-clause-told
returns-clause-told c =
    rw (← c.self.view_is) (_, c.in_ok-put_writer.ensures, (c.last_touch.new.line, c.in_ok-found.found, c.last_touch.ensures.line, c.in_ok-found.ensures.last, refl))
