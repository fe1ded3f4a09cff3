use Rattle.std.proofs.Common.{◌+◌, arith}
use Rattle.pair.proofs.NotesAlone.{noted_or_not, notes_none, notes_up_to}
use Rattle.pair.proofs.noting.note.Goals as goal

pub returns-clause-only : goal.returns-clause-only
returns-clause-only c =
    noted_or_not c.note_released-noted.result c.args.book.now c.note_released-noted.new.self c.args.went.hart _ c.note_released-noted.ensures.noted
    c.note_released-noted.ensures.book c.note_released-noted.ensures.err

pub returns-clause-told : goal.returns-clause-told
returns-clause-told c =
    notes_up_to c.note_released-noted.result c.args.book.now c.note_released-noted.new.self c.args.went.hart _ (c.args.went.last + 1)
    c.note_released-noted.ensures.noted c.note_released-noted.ensures.err (omega arith)

pub returns-then-index-from-clause-told : goal.returns-then-index-from-clause-told
returns-then-index-from-clause-told c = notes_none c.args.book.now c.args.went.hart (c.args.went.last + 1)

pub returns-then-last-outputs_of-clause-told : goal.returns-then-last-outputs_of-clause-told
returns-then-last-outputs_of-clause-told c = notes_none c.args.book.now c.args.went.hart (c.args.went.last + 1)
