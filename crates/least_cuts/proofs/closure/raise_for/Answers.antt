use Rattle.std.proofs.Common.{[], List, refl, length, ◌<◌, ◌≤◌, subst}
use Rattle.std.proofs.lemmas.List.{take_all}
use Rattle.std.proofs.lemmas.List.Elements.{All-from_recursion}
use Rattle.ft_types.specs.Counts.{count_at}
use Rattle.ft_types.specs.declared.names.TheConstants.{COUNT_LIMIT}
use Rattle.edge_log.specs.declared.Edge.{Edge}
use Rattle.edge_log.specs.EdgeLog.{row_of}
use Rattle.least_cuts.proofs.Raised.{RaisedSo, in_items, row_other, row_next, so_all, asks_count}
use Rattle.least_cuts.proofs.closure.raise_for.Goals as goal

pub loop-edge-init : goal.loop-edge-init
loop-edge-init c =
    record {
      raised = (refl, All-from_recursion (λ e. e.at < c.get-end.result → e.after ≤ count_at c.args.cut.now e.other) [] tt);
    }

pub raise_by-has_raised-requires-clause-other : goal.raise_by-has_raised-requires-clause-other
raise_by-has_raised-requires-clause-other c =
    row_other c.args.leg.now (length c.args.cut.now) c.args.hart c.get-end.result c.loop-edge.edge-index c.args.cut.now c.loop-edge.cut c.loop-edge.has_raised
    c.of_hart-edge-items.result.now c.edge-item.result c.requires.leg refl c.next-rules.ensures.rules c.of_hart-edge-items.ensures.value c.edge-item.is
    c.loop-edge-test.true c.get-end.ensures.value c.loop-edge.invariant.raised

pub raise_by-has_raised-requires-clause-count : goal.raise_by-has_raised-requires-clause-count
raise_by-has_raised-requires-clause-count c =
    asks_count c.args.leg.now (length c.args.cut.now) c.args.hart c.get-end.result COUNT_LIMIT c.args.cut.now c.edge-item.result c.requires.leg
    c.next-rules.ensures.rules
    (in_items c.args.leg.now c.args.hart c.loop-edge.edge-index c.of_hart-edge-items.result.now c.edge-item.result c.of_hart-edge-items.ensures.value
    c.edge-item.is c.loop-edge-test.true) c.get-end.ensures.value c.requires.within (rw c.count_of-most.ensures.value at c.count_of-most.ensures.limit)

pub loop-edge-preserved : goal.loop-edge-preserved
loop-edge-preserved c =
    record {
      raised =
          row_next c.args.leg.now (length c.args.cut.now) c.args.hart c.get-end.result c.loop-edge.edge-index c.args.cut.now c.loop-edge.cut
          c.loop-edge.has_raised c.of_hart-edge-items.result.now c.edge-item.result c.requires.leg refl c.next-rules.ensures.rules
          c.of_hart-edge-items.ensures.value c.edge-item.is c.loop-edge-test.true c.get-end.ensures.value c.loop-edge.invariant.raised
          c.raise_by-has_raised.result c.raise_by-has_raised.new.cut c.raise_by-has_raised.ensures.raised c.raise_by-has_raised.ensures.kept
          c.raise_by-has_raised.ensures.met;
    }

pub returns : goal.returns
returns c =
    record {
      raises =
          so_all c.args.leg.now c.args.hart c.get-end.result c.args.cut.now c.loop-edge.has_raised c.loop-edge.cut c.next-rules.ensures.rules
          c.get-end.ensures.value
          (subst
          (λ (done : List Edge). RaisedSo c.args.leg.now c.get-end.result c.args.cut.now done c.loop-edge.has_raised c.loop-edge.cut)
          (take_all c.loop-edge.edge-index (row_of c.args.leg.now.edges c.args.hart) (rw c.of_hart-edge-items.ensures.value at c.loop-edge-test.false))
          c.loop-edge.invariant.raised);
    }
