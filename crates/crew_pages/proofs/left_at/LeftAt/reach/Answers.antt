use Rattle.std.proofs.Common.{arith}
use Rattle.crew_pages.specs.machinery.Leaving.{left_of}
use Rattle.crew_pages.proofs.Reaches.{none_beyond, reach_fits}
use Rattle.crew_pages.proofs.Left.{left_many}
use Rattle.crew_pages.proofs.left_at.LeftAt.reach.Goals as goal

pub returns-clause-limit : goal.returns-clause-limit
returns-clause-limit c =
    let i = c.self.inside in
    omega (arith, reach_fits (left_of i.harts i.counts), left_many i.harts i.counts, c.self.invariant.count_each, c.self.invariant.reaches)

pub returns-clause-beyond : goal.returns-clause-beyond
returns-clause-beyond c =
    let i = c.self.inside in
    rw (← c.self.view_is) (λ hart beyond. none_beyond (left_of i.harts i.counts) hart (omega (arith, beyond, c.self.invariant.reaches)))
