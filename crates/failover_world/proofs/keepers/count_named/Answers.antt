use Rattle.std.proofs.Common.{◌++◌, append-nil, map, take, ap, subst, ◌∙◌, arith}
use Rattle.go_live.specs.Quorums.{IsOld}
use Rattle.failover_world.specs.Happenings.{stores_of}
use Rattle.primary.proofs.Rows.{take_all}
use Rattle.failover_world.proofs.Named.{one_more, told_more}
use Rattle.failover_world.proofs.keepers.count_named.Goals.{in-Some, in_default}
use Rattle.failover_world.proofs.keepers.count_named.Goals as goal

pub loop-number-preserved : goal.loop-number-preserved
loop-number-preserved c =
    let stores = c.args.stores.now in
    let numbers = c.args.numbers.now in
    let n = c.loop-number.number in
    let before = stores_of (take n stores) numbers in
    let lt = c.loop-number-test.true in
    let few = c.loop-number.invariant.1 in
    let more = one_more stores numbers n (omega (arith, lt)) in
    elim c.match-store_if_named.branch [
      | in-Some w ↦
          let one = more ∙ ap (λ xs. before ++ xs) w.in-Some.ensures.some in
          let many = w.many-is in (
            rw (one, w.many-is, w.last-is, w.max-last.ensures)
                (told_more before c.loop-number.many c.loop-number.last n w.in-Some.store.now w.last_term.result c.loop-number.invariant.0 w.last_term.ensures),
            omega (arith, few, many),
          )
      | in_default w ↦
          let none = more ∙ ap (λ xs. before ++ xs) w.in_default.ensures.none ∙ append-nil before in
          let many = w.many-is in
          (rw (none, w.many-is, w.last-is) c.loop-number.invariant.0, omega (arith, few, many))
    ]

pub returns-clause-old : goal.returns-clause-old
returns-clause-old c =
    let over = c.loop-number-test.false in
    subst (λ stores. IsOld (map (λ s. s.1) (stores_of stores c.args.numbers.now)) c.loop-number.last)
    (take_all c.args.stores.now c.loop-number.number (omega (arith, over))) c.loop-number.invariant.0.old
