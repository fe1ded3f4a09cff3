use Rattle.std.proofs.Common.{arith}
use Rattle.ft_types.specs.Counts.{count_at}
use Rattle.tracked_position.proofs.Scans.{next_taken, next_skipped, next_other}
use Rattle.tracked_position.proofs.walk.least_unmet.Goals as goal
use Rattle.tracked_position.proofs.walk.least_unmet.Goals.{in-Edge+then-edge-below+then-count_of-edge, in-Edge+else-edge-below}
use Rattle.tracked_position.proofs.walk.least_unmet.Goals.{else-edge-below-via-then-edge-below+else-count_of-edge, else-edge-below-via-else-edge-below}
use Rattle.tracked_position.proofs.walk.least_unmet.Goals.{in_default}

pub loop-record-preserved : goal.loop-record-preserved
loop-record-preserved c =
    let records = c.args.records.now in
    let i = c.loop-record.record-index in
    let x = c.record-item.result in
    let cut = count_at c.args.cut.now in
    elim c.match-record.branch [
      | in-Edge+then-edge-below+then-count_of-edge w ↦
          rw (w.least-is, w.below-is)
          (next_taken records i x c.loop-record-test.true c.record-item.is cut c.args.ceiling c.loop-record.below c.loop-record.least c.loop-record.invariant
          w.in-Edge.edge w.in-Edge.is w.if-edge-below.true (omega arith))
      | in-Edge+else-edge-below w ↦
          rw (w.least-is, w.below-is)
          (next_skipped records i x c.loop-record-test.true c.record-item.is cut c.args.ceiling c.loop-record.below c.loop-record.least
          c.loop-record.invariant w.in-Edge.edge w.in-Edge.is
          (λ less.
          elim w.else-edge-below.branch [
            | else-edge-below-via-then-edge-below+else-count_of-edge w' ↦ omega arith
            | else-edge-below-via-else-edge-below w' ↦ absurd (omega arith)
          ]))
      | in_default w ↦
          rw (w.least-is, w.below-is)
          (next_other records i x c.loop-record-test.true c.record-item.is cut c.args.ceiling c.loop-record.below c.loop-record.least c.loop-record.invariant
          w.in_default.not-Edge)
    ]
