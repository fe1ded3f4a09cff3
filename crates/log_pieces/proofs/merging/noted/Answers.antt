use Rattle.std.proofs.Common.{arith, get_or}
use Rattle.std.proofs.lemmas.List.{get_or_default}
use Rattle.log_pieces.proofs.cuts.Noting.{noting_begins, noted_one, noting_ends, order_back}
use Rattle.log_pieces.proofs.merging.noted.Goals as goal

pub loop-note-init : goal.loop-note-init
loop-note-init c = rw c.new-out.ensures.items (noting_begins c.args.records.now c.args.notes.now c.requires.order c.requires.plain)

pub split_upto-requires : goal.split_upto-requires
split_upto-requires c = order_back c.loop-note.out.items c.loop-note.left.now c.loop-note.invariant.order

pub loop-note-preserved : goal.loop-note-preserved
loop-note-preserved c =
    let notes = c.args.notes.now in
    let i = c.loop-note.note-index in
    let n = get_or notes i (0, 0) in
    rw c.in_ok-add_note.ensures
    (noted_one c.args.records.now notes i c.loop-note.out.items c.loop-note.left.now c.loop-note.invariant c.requires.notes c.loop-note-test.true n.0 n.1
    (λ d. get_or_default notes i d (0, 0) c.loop-note-test.true) c.split_upto.result.0.now c.split_upto.result.1.now c.split_upto.ensures.whole
    c.split_upto.ensures.upto c.split_upto.ensures.behind)

pub returns-clause-told : goal.returns-clause-told
returns-clause-told c =
    rw c.in_ok-extend_from_slice.ensures.items
    (noting_ends c.args.records.now c.args.notes.now c.loop-note.note-index c.loop-note.out.items c.loop-note.left.now c.loop-note.invariant
    (omega (arith, c.loop-note-test.false)))

pub returns-clause-order : goal.returns-clause-order
returns-clause-order c = rw c.in_ok-extend_from_slice.ensures.items c.loop-note.invariant.order
