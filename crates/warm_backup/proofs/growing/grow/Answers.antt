use Rattle.std.proofs.Common.{◌≡◌, length, ap, ◌∙◌, arith}
use Rattle.ft_types.specs.Counts.{count_at}
use Rattle.warm_backup.proofs.Raised.{grew_more, raised_all, raised_behind, raises_at, raises_none, raises_nothing}
use Rattle.warm_backup.proofs.growing.grow.Goals as goal
use Rattle.warm_backup.proofs.growing.grow.Goals.{then-get-end+in_ok-grow_hart, else-get-end}

pub loop-number-init : goal.loop-number-init
loop-number-init c =
    raises_none c.args.store.now c.args.ends.now c.args.leg.now c.args.rest.now c.args.cursors.now c.requires.facts c.told-cursors c.requires.walks
    c.requires.fresh

pub grow_hart-requires-clause-inside : goal.grow_hart-requires-clause-inside
grow_hart-requires-clause-inside c =
    let grows = c.loop-number.invariant.grows in
    rw (grows.term, grows.base) (λ avail.
    let le = c.requires.to.inside avail c.new-hart.result in
    let is = c.get-end.ensures.value in
    omega (arith, le, is))

pub returns-in_err-grow_hart-clause-grows : goal.returns-in_err-grow_hart-clause-grows
returns-in_err-grow_hart-clause-grows c =
    let same = c.new-hart.ensures in
    let from = c.loop-number.invariant.not_yet c.new-hart.result (omega (arith, same)) in
    grew_more c.args.leg.now c.loop-number.leg c.grow_hart.new.leg c.new-hart.result from c.loop-number.invariant.grows c.grow_hart.ensures.grows

pub loop-number-preserved : goal.loop-number-preserved
loop-number-preserved c =
    let store = c.args.store.now in
    let ends = c.args.ends.now in
    let was = c.args.leg.now in
    let before = c.args.rest.now in
    let number = c.loop-number.number in
    let so_far = c.loop-number.invariant in
    let same = c.new-hart.ensures in
    elim c.if-get-end.branch [
      | then-get-end+in_ok-grow_hart w ↦
          let less = c.loop-number-test.true in
          let many = c.harts-number-end.ensures.value in
          let within = c.harts-number-end.ensures.limit in
          let harts = c.requires.to.harts in
          let ends_of = c.requires.facts.many_ends in
          let base = ap length so_far.grows.base in
          rw (w.leg-is, w.rest-is, w.cursors-is)
          (raises_at store ends was before number c.loop-number.cursors c.loop-number.leg c.loop-number.rest so_far c.new-hart.result w.index.result
          c.get-end.result same (w.index.ensures.value ∙ same) c.get-end.ensures.value (omega (arith, less, many, harts, ends_of, base, same))
          (omega (arith, less, many, within, same)) w.grow_hart.new.leg w.grow_hart.new.rest w.grow_hart.new.cursor w.in_ok-grow_hart.ensures.facts
          w.in_ok-grow_hart.ensures.walks w.in_ok-grow_hart.ensures.ends (rw c.requires.now at w.in_ok-grow_hart.ensures.taken) w.grow_hart.ensures.rest_ends
          w.grow_hart.ensures.grows)
      | else-get-end w ↦
          let over = w.if-get-end.false in
          let up = c.requires.to.up c.new-hart.result in
          let from = so_far.not_yet c.new-hart.result (omega (arith, same)) in
          let end = c.get-end.ensures.value in
          let at = c.get.ensures.value in
          let is : count_at c.loop-number.leg.ends c.new-hart.result ≡ count_at ends c.new-hart.result = omega (arith, over, up, from, end, at) in
          rw (w.leg-is, w.rest-is, w.cursors-is)
          (raises_nothing store ends was before number c.loop-number.cursors c.loop-number.leg c.loop-number.rest so_far (rw same at is))
    ]

pub returns-clause-ends : goal.returns-clause-ends
returns-clause-ends c =
    let so_far = c.loop-number.invariant in
    let over = c.loop-number-test.false in
    let is = c.harts-number-end.ensures.value in
    let harts = c.requires.to.harts in
    let was = c.requires.facts.many_ends in
    let now = so_far.facts.many_ends in
    let base = ap length so_far.grows.base in
    raised_all c.args.store.now c.args.ends.now c.args.leg.now c.args.rest.now c.loop-number.cursors c.loop-number.number c.loop-number.leg c.loop-number.rest
    so_far (omega (arith, over, is)) (omega (arith, harts, was, now, base))

pub returns-clause-behind : goal.returns-clause-behind
returns-clause-behind c =
    let so_far = c.loop-number.invariant in
    let over = c.loop-number-test.false in
    let is = c.harts-number-end.ensures.value in
    let harts = c.requires.to.harts in
    let was = c.requires.facts.many_ends in
    let base = ap length so_far.grows.base in
    raised_behind c.args.store.now c.args.ends.now c.args.leg.now c.args.rest.now c.loop-number.cursors c.loop-number.number c.loop-number.leg
    c.loop-number.rest so_far c.requires.fresh c.requires.to.up (omega (arith, over, is, c.loop-number.auto.number-end)) (omega (arith, harts, was))
