use Rattle.edge_log.proofs.Rows.{row_after}
use Rattle.edge_log.proofs.row.put_new.Goals as goal

pub returns-clause-row : goal.returns-clause-row
returns-clause-row c =
    rw c.index-to.ensures.value
    (row_after c.args.edges.now.items c.put.new.edges.items c.args.reached.now.items c.args.edge c.requires.row c.put.ensures.put
    (rw c.index-to.ensures.value at c.index-to.ensures.below) c.requires.hart c.requires.more)
