use Rattle.std.proofs.Common.{◌<◌, ◌++◌, ◌∷◌, [], List, map, length, take, arith, ap, subst, sym, ◌∙◌}
use Rattle.std.proofs.lemmas.List.{take_more, take_all, length-map, get_or-map}
use Rattle.log_join.specs.Stores.{StoreView, nothing}
use Rattle.go_live.specs.Joined.{AreJoined}
use Rattle.go_live.proofs.Joins.{joined_more}
use Rattle.go_live.proofs.joining.join_all.Goals as goal

pub loop-store-init : goal.loop-store-init
loop-store-init c = c.new-joined.ensures

pub loop-store-preserved : goal.loop-store-preserved
loop-store-preserved c =
    let stores = c.args.stores.now in
    let i = c.loop-store.store-index in
    let item = c.loop-store-item.result in
    let within : i < length stores = omega arith in
    let one =
    take_more (map (λ s. s.1.now) stores) i item.1.now (rw length-map within)
    ∙ ap (λ (s : StoreView). take i (map (λ s. s.1.now) stores) ++ s ∷ [])
    (get_or-map (λ s. s.1.now) stores i item item.1.now within ∙ ap (λ s. s.1.now) (sym c.loop-store-item.is)) in
    rw one
    (joined_more (nothing c.args.guest) (take i (map (λ s. s.1.now) stores)) item.1.now c.loop-store.joined c.join.new.self c.loop-store.invariant
    c.in-Ok.ensures.joined)

pub returns : goal.returns
returns c =
    subst (λ (stores : List StoreView). AreJoined c.args.guest stores c.loop-store.joined)
    (take_all c.loop-store.store-index (map (λ s. s.1.now) c.args.stores.now) (rw length-map (omega arith))) c.loop-store.invariant
