use Rattle.std.proofs.Common.{◌<◌, length, All, sym, ap, subst, arith}
use Rattle.guest_image.specs.Machine.{MachineState}
use Rattle.page_book.specs.Books.{BookView}
use Rattle.book_modes.specs.Recordings.{RecordingView}
use Rattle.primary.specs.Outputs.{said_at}
use Rattle.primary.specs.Noting.{NotesOne}
use Rattle.primary.proofs.Last.{none_noted, next_noted, all_noted}
use Rattle.primary.proofs.noting.note_all.Goals as goal

pub loop-number-init : goal.loop-number-init
loop-number-init c = none_noted c.args.given.now c.args.book.now c.requires.room

pub note_hart-requires-clause-said : goal.note_hart-requires-clause-said
note_hart-requires-clause-said c =
    subst (λ (m : MachineState). All (λ o. o.number < length (said_at m o.hart)) c.args.given.now)
    (sym (ap (λ (x : BookView RecordingView). x.machine) c.loop-number.invariant.rest)) c.requires.said

pub loop-number-preserved : goal.loop-number-preserved
loop-number-preserved c =
    next_noted c.args.given.now c.args.book.now c.loop-number.book c.note_hart.new.book c.loop-number.number c.loop-number.invariant
    (subst (λ n. NotesOne n c.args.given.now c.loop-number.book c.note_hart.new.book) c.new.ensures c.note_hart.ensures)

pub returns : goal.returns
returns c =
    let over = c.loop-number-test.false in
    let many = c.harts-number-end.ensures.value in
    let same = ap (λ (m : MachineState). length m.harts) c.machine.ensures.value in
    all_noted c.args.given.now c.args.book.now c.loop-number.book c.loop-number.number c.loop-number.invariant (omega (arith, over, many, same)) c.requires.said
