use Rattle.std.proofs.Common.{◌≡◌, ◌∙◌, ◌+◌, ◌<◌, length, length-set, true, ap, arith}
use Rattle.crew_pages.specs.machinery.Leaving.{left_of}
use Rattle.crew_pages.specs.machinery.Reach.{reach_of}
use Rattle.crew_pages.proofs.Reaches.{reach_set}
use Rattle.crew_pages.proofs.Left.{left_many, left_more, blank_more}
use Rattle.crew_pages.proofs.left_at.LeftAt.leave.Goals as goal

pub invariant_of-self : goal.invariant_of-self
invariant_of-self c =
    let i = c.self.inside in
    let hart = c.args.hart in
    let has : hart < length i.harts = c.with-self-inside.ensures.row in
    let there : hart < length i.counts = omega (arith, c.self.invariant.flag_each, c.self.invariant.count_each, has) in
    let more = left_more i.harts i.counts hart c.args.count has there in
    let room : hart < length (left_of i.harts i.counts) = omega (arith, left_many i.harts i.counts, there) in
    let reaches = ap reach_of more ∙ reach_set (left_of i.harts i.counts) hart c.args.count room in
    rw (c.with-self-inside.ensures.value, c.index.ensures.value)
    (record {
      flag_each = length-set i.harts hart true ∙ c.self.invariant.flag_each;
      count_each = length-set i.counts hart c.args.count ∙ c.self.invariant.count_each;
      blank = blank_more i.harts i.counts hart c.args.count has c.self.invariant.blank;
      reaches = omega (arith, reaches, c.self.invariant.reaches, c.max-self-inside.ensures, c.number.ensures.value);
    })

pub returns-clause-value : goal.returns-clause-value
returns-clause-value c =
    let i = c.self.inside in
    let has : c.args.hart < length i.harts = c.with-self-inside.ensures.row in
    let there : c.args.hart < length i.counts = omega (arith, c.self.invariant.flag_each, c.self.invariant.count_each, has) in
    rw (c.with-self-inside.ensures.value, c.index.ensures.value, ← c.self.view_is) (left_more i.harts i.counts c.args.hart c.args.count has there)

pub returns-clause-row : goal.returns-clause-row
returns-clause-row c =
    let i = c.self.inside in
    rw (← c.self.view_is)
    (omega (arith, left_many i.harts i.counts, c.self.invariant.flag_each, c.self.invariant.count_each, c.with-self-inside.ensures.row))
