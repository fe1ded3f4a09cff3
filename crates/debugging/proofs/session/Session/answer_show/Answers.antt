use Rattle.std.proofs.Common.{refl}
use Rattle.debugging.proofs.session.Session.answer_show.Goals as goal

pub returns : goal.returns
returns c = (c.in_ok-show.field-0.items, c.in_ok-show.ensures, refl)
