use Rattle.std.proofs.Common.{rules}
use Rattle.book_modes.specs.Recordings.{IsTaker}
use Rattle.book_modes.proofs.ledger.Yielding.{one_more, none_more}
use Rattle.book_modes.proofs.recording.Recording.takers.Goals as goal
use Rattle.book_modes.proofs.recording.Recording.takers.Goals.{then-is_taker, else-is_taker}

pub loop-number-preserved : goal.loop-number-preserved
loop-number-preserved c =
    let taker = IsTaker c.args.self.now c.args.leases.now c.args.asked.now in
    elim c.if-is_taker.branch [
      | then-is_taker w ↦
          rw (w.harts-is, w.with-harts.ensures.value, c.new-hart.ensures)
          (one_more taker c.loop-number.harts c.loop-number.number (search rules) (search rules) c.loop-number.invariant)
      | else-is_taker w ↦ rw (w.harts-is) (none_more taker c.loop-number.harts c.loop-number.number (search rules) c.loop-number.invariant)
    ]
