use Rattle.std.proofs.Common.{rules, ◌≢◌}
use Rattle.std.proofs.lemmas.Result.{IfOk-weaker}
use Rattle.book_modes.proofs.ledger.Dues.{room_there, logs_some}
use Rattle.book_modes.proofs.recording.Recording.log_inputs.Goals as goal

pub add_all-requires-clause-room : goal.add_all-requires-clause-room
add_all-requires-clause-room c =
    let i = c.self.inside in
    let l = c.args.lease.now in
    let last = rw (← c.self.view_is) at c.requires.last in
    rw (c.deref_mut.ensures.value, c.hart.ensures.value, c.lent_at.ensures) (room_there i.inputs.value l.hart l.base.count c.inputs.result.now last c.inputs.ensures.few)

pub returns-clause-logged : goal.returns-clause-logged
returns-clause-logged c =
    let l = c.args.lease.now in
    let some : l.steps ≢ 0 = search rules in
    IfOk-weaker c.add_all.result _ _
    (λ ok row.
    logs_some l.steps c.args.self.now.inputs l c.add_all.new.self some
    (rw (← c.self.view_is)
    (record {
      harts = rw c.deref_mut.ensures.value at c.add_all.ensures.harts;
      row = rw (c.deref_mut.ensures.value, c.hart.ensures.value, c.lent_at.ensures, c.inputs.ensures.value) at row;
      others = rw (c.deref_mut.ensures.value, c.hart.ensures.value) at c.add_all.ensures.others_kept;
    }))) c.add_all.ensures.added
