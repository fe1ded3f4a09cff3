use Rattle.std.proofs.Common.{sym}
use Rattle.input_log.proofs.Notings.{all_below}
use Rattle.input_log.proofs.note_row.notes_below.Goals as goal

pub returns : goal.returns
returns c =
    sym
    (all_below c.args.notes.now c.args.count c.first_from.result c.first_from.ensures.within c.first_from.ensures.before c.first_from.ensures.from)
