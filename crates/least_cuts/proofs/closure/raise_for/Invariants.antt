use Rattle.std.proofs.Common.{take}
use Rattle.edge_log.specs.EdgeLog.{row_of}
use Rattle.least_cuts.proofs.Raised.{RaisedSo}
use Rattle.least_cuts.proofs.closure.raise_for.Given as goal

abbrev pub invariant-loop-edge : goal.invariant-loop-edge
invariant-loop-edge l =
    record {
      raised : RaisedSo l.leg l.end l.fn.cut (take l.edge-index (row_of l.leg.edges l.fn.hart)) l.has_raised l.cut;
    }
