use Rattle.std.proofs.Common.{rules}
use Rattle.hart_lease.specs.OpenLeases.{IsHolder}
use Rattle.book_modes.proofs.ledger.Yielding.{one_more, none_more}
use Rattle.book_modes.proofs.mode.ReplayingMode.holders.Goals as goal
use Rattle.book_modes.proofs.mode.ReplayingMode.holders.Goals.{then-is_holder, else-is_holder}

pub loop-number-preserved : goal.loop-number-preserved
loop-number-preserved c =
    let holder = IsHolder c.args.leases.now c.args.asked.now.hart c.args.asked.now.page c.args.asked.now.want in
    elim c.if-is_holder.branch [
      | then-is_holder w ↦
          rw (w.harts-is, w.with-harts.ensures.value, c.new-hart.ensures)
          (one_more holder c.loop-number.harts c.loop-number.number (search rules) (search rules) c.loop-number.invariant)
      | else-is_holder w ↦ rw (w.harts-is) (none_more holder c.loop-number.harts c.loop-number.number (search rules) c.loop-number.invariant)
    ]
