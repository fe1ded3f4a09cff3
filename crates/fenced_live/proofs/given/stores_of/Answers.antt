use Rattle.std.proofs.Common.{◌≡◌, ◌<◌, ◌++◌, ◌∷◌, [], ℕ, List, map, length, take, arith, ◌∙◌, ap, sym}
use Rattle.std.proofs.lemmas.List.{take_more, take_all, length-map, get_or-map, map-append}
use Rattle.log_join.specs.Stores.{StoreView}
use Rattle.fenced_live.proofs.given.stores_of.Goals as goal

pub loop-one-preserved : goal.loop-one-preserved
loop-one-preserved c =
    let given = c.args.given.now in
    let i = c.loop-one.one-index in
    let item = c.one-item.result in
    let within : i < length given = omega arith in
    let keeper =
    take_more (map (λ g. g.keeper) given) i item.keeper (rw length-map within)
    ∙ ap (λ (n : ℕ). take i (map (λ g. g.keeper) given) ++ n ∷ [])
    (get_or-map (λ g. g.keeper) given i item item.keeper within ∙ ap (λ g. g.keeper) (sym c.one-item.is)) in
    let store =
    take_more (map (λ g. g.store.now) given) i item.store.now (rw length-map within)
    ∙ ap (λ (s : StoreView). take i (map (λ g. g.store.now) given) ++ s ∷ [])
    (get_or-map (λ g. g.store.now) given i item item.store.now within ∙ ap (λ g. g.store.now) (sym c.one-item.is)) in (
      ap (λ xs. map (λ s. s.0) xs) c.push_reserved.ensures.items
          ∙ map-append (λ s. s.0) c.loop-one.stores.items ((item.keeper, item.store) ∷ [])
          ∙ ap (λ (ns : List ℕ). ns ++ item.keeper ∷ []) c.loop-one.invariant.0
          ∙ sym keeper,
      ap (λ xs. map (λ s. s.1.now) xs) c.push_reserved.ensures.items
          ∙ map-append (λ s. s.1.now) c.loop-one.stores.items ((item.keeper, item.store) ∷ [])
          ∙ ap (λ (ss : List StoreView). ss ++ item.store.now ∷ []) c.loop-one.invariant.1
          ∙ sym store,
      omega arith,
    )

pub returns-clause-keepers : goal.returns-clause-keepers
returns-clause-keepers c =
    c.loop-one.invariant.0 ∙ take_all c.loop-one.one-index (map (λ g. g.keeper) c.args.given.now) (rw length-map (omega arith))

pub returns-clause-stores : goal.returns-clause-stores
returns-clause-stores c =
    c.loop-one.invariant.1 ∙ take_all c.loop-one.one-index (map (λ g. g.store.now) c.args.given.now) (rw length-map (omega arith))
