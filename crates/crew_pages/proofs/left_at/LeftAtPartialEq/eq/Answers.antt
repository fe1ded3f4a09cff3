use Rattle.crew_pages.specs.machinery.Leaving.{harts_back, counts_back}
use Rattle.crew_pages.proofs.Left.{compared}
use Rattle.crew_pages.proofs.left_at.LeftAtPartialEq.eq.Goals as goal

pub returns : goal.returns
returns c =
    let one = c.t1-1.invariant in
    let other = c.t2-1.invariant in
    rw (← c.t1-1.view_is, ← c.t2-1.view_is, harts_back one, harts_back other, counts_back one, counts_back other, one.reaches, other.reaches)
    (compared _ _ c.eq.ensures c.and_eq.ensures c.and_eq-2.ensures)
