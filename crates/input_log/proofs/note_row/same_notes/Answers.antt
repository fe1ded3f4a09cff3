use Rattle.std.proofs.lemmas.Slice.Eq.{slice_eq-Decides}
use Rattle.input_log.proofs.Notings.{note_decides}
use Rattle.input_log.proofs.note_row.same_notes.Goals as goal

pub returns : goal.returns
returns c = slice_eq-Decides note_decides c.args.notes.now c.args.others.now c.eq.result c.eq.ensures
