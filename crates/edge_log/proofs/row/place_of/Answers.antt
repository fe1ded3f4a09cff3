use Rattle.edge_log.proofs.Rows.{front_before}
use Rattle.std.proofs.Common.{arith}
use Rattle.edge_log.proofs.row.place_of.Goals as goal

pub returns-then-comes_before-clause-before : goal.returns-then-comes_before-clause-before
returns-then-comes_before-clause-before c =
    front_before c.args.edges.now c.args.edge.now c.index-edges-place.result c.loop-place.place c.requires (omega arith)
    c.loop-place.invariant.within c.index-edges-place.is (c.comes_before.ensures.0 c.if-comes_before.true)
