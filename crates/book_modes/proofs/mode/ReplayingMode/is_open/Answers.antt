use Rattle.std.proofs.Common.{rules, ◌≡◌}
use Rattle.hart_lease.specs.Runs.{counts_of}
use Rattle.book_modes.proofs.obeying.Edges.{unmet_at, at_unmet}
use Rattle.book_modes.proofs.mode.ReplayingMode.is_open.Goals as goal

pub returns : goal.returns
returns c =
    let edges = c.deref.result.now.edges in
    let now = counts_of c.args.machine.now in
    let at : c.count-count.result ≡ now c.args.hart = search rules in
    rw (← c.self.view_is, ← c.deref.ensures) (
      λ yes. unmet_at edges c.at.ensures.rules c.args.hart now c.count-count.result at (rw (← c.at.ensures.value) (c.is_unmet.ensures.0 yes)),
      λ unmet. c.is_unmet.ensures.1 (rw c.at.ensures.value (at_unmet edges c.at.ensures.rules c.args.hart now c.count-count.result at unmet)),
    )
