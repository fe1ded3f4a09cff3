use Rattle.std.proofs.Common.{◌<◌, length, Some, ap, sym, ◌∙◌, arith, true≢false}
use Rattle.std.specs.Prelude.{slice_index}
use Rattle.crew_pages.proofs.Left.{left_at, left_not}
use Rattle.crew_pages.proofs.left_at.LeftAt.get.Goals as goal

pub returns-then-contains : goal.returns-then-contains
returns-then-contains c =
    let i = c.self.inside in
    let there : c.args.hart < length i.counts = omega (arith, c.self.invariant.count_each, c.index.ensures.value, c.index.ensures.below) in
    rw (c.index.ensures.value, ← c.self.view_is) (sym (left_at i.harts i.counts c.args.hart there (c.contains.ensures.0 c.if-contains.true)))

pub returns-else-contains : goal.returns-else-contains
returns-else-contains c =
    let i = c.self.inside in
    rw (← c.self.view_is)
    (sym (left_not i.harts i.counts c.args.hart (λ set. true≢false (sym (c.contains.ensures.1 set) ∙ c.if-contains.false))))
