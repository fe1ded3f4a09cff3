use Rattle.std.proofs.Common.{ℕ, ◌++◌, map, take, get_or, None, sym, ap, ◌∙◌, arith}
use Rattle.std.proofs.lemmas.List.{map-append}
use Rattle.log_join.specs.Stores.{StoreView}
use Rattle.failover_world.specs.Happenings.{if_named, stores_of}
use Rattle.failover_world.proofs.Named.{one_more}
use Rattle.failover_world.proofs.keepers.stores_named.Goals as goal

pub loop-number-preserved : goal.loop-number-preserved
loop-number-preserved c =
    let lt = c.loop-number-test.true in
    let more = one_more c.args.stores.now c.args.numbers.now c.loop-number.number (omega (arith, lt)) in
    let room = c.loop-number.invariant.2 in
    let grown = c.add_if_named.ensures.one_more in
    let same = c.add_if_named.ensures.capacity in (
      c.add_if_named.ensures.keepers
          ∙ ap (λ xs. xs ++ map (λ s. s.0) (if_named c.args.numbers.now c.loop-number.number (get_or c.args.stores.now c.loop-number.number None))) c.loop-number.invariant.0
          ∙ sym (map-append (λ (s : ℕ × StoreView). s.0) (stores_of (take c.loop-number.number c.args.stores.now) c.args.numbers.now)
          (if_named c.args.numbers.now c.loop-number.number (get_or c.args.stores.now c.loop-number.number None)))
          ∙ ap (map (λ s. s.0)) (sym more),
      c.add_if_named.ensures.stores
          ∙ ap (λ xs. xs ++ map (λ s. s.1) (if_named c.args.numbers.now c.loop-number.number (get_or c.args.stores.now c.loop-number.number None))) c.loop-number.invariant.1
          ∙ sym (map-append (λ (s : ℕ × StoreView). s.1) (stores_of (take c.loop-number.number c.args.stores.now) c.args.numbers.now)
          (if_named c.args.numbers.now c.loop-number.number (get_or c.args.stores.now c.loop-number.number None)))
          ∙ ap (map (λ s. s.1)) (sym more),
      omega (arith, room, grown, same, lt),
    )
