use Rattle.std.proofs.Common.{arith}
use Rattle.edge_log.proofs.Rows.{rest_later, takes_more}
use Rattle.edge_log.proofs.row.add_each.Goals as goal

pub loop-edge-preserved : goal.loop-edge-preserved
loop-edge-preserved c =
    record {
      row = c.add_one.ensures.row;
      harts = omega (arith, c.add_one.ensures.harts, c.loop-edge.invariant.harts);
      room = omega arith;
      last = rest_later _ _ _ _ _ _ c.requires.rising c.loop-edge-test.true c.edge-item.is c.add_one.ensures.takes c.loop-edge.invariant.last;
      takes = λ new rest. c.loop-edge.invariant.takes new (takes_more _ _ _ _ _ _ new c.loop-edge-test.true c.edge-item.is c.add_one.ensures.takes rest);
    }
