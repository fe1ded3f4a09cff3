use Rattle.std.proofs.Common.{◌≤◌, ◌<◌, ◌-◌, ◌≡◌, length, ap, arith, get_or}
use Rattle.std.proofs.lemmas.List.{get_or_default}
use Rattle.edge_log.specs.declared.Edge.{Edge}
use Rattle.edge_log.proofs.Rows.{rising_counts}
use Rattle.warm_backup.proofs.slices.edges_before.Goals as goal

pub returns-then-edges-many-clause-before : goal.returns-then-edges-many-clause-before
returns-then-edges-many-clause-before c k d up less =
    let xs = c.args.edges.now in
    let last = c.loop-many.many - 1 in
    let within = c.loop-many.invariant.within in
    let some = c.loop-many-test.true in
    let there : last < length xs = omega (arith, within, some) in
    let le : (get_or xs k d).at ≤ (get_or xs last d).at = rising_counts xs c.requires k last d (omega (arith, less)) there in
    let same : (get_or xs last c.index-edges-many.result).at ≡ (get_or xs last d).at =
    ap (λ (e : Edge). e.at) (get_or_default xs last c.index-edges-many.result d there) in
    omega (arith, le, same, c.if-edges-many.true)
