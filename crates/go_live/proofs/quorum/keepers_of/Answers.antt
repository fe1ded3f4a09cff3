use Rattle.std.proofs.Common.{◌≡◌, ◌<◌, ◌++◌, ◌∷◌, [], ℕ, rules, map, length, take, arith, subst, ◌∙◌, ap, sym}
use Rattle.std.proofs.lemmas.List.{take_more, take_all, length-map, get_or-map}
use Rattle.go_live.specs.Quorums.{AreMembers}
use Rattle.go_live.proofs.Distinct.{members_none, member_more}
use Rattle.go_live.proofs.quorum.keepers_of.Goals as goal

pub loop-keeper-init : goal.loop-keeper-init
loop-keeper-init c = let sized : length c.new-keepers.result ≡ 5 = search rules in members_none c.new-keepers.result sized c.new-keepers.ensures

pub loop-keeper-preserved : goal.loop-keeper-preserved
loop-keeper-preserved c =
    let stores = c.args.stores.now in
    let i = c.loop-keeper.keeper-index in
    let item = c.loop-keeper-item.result in
    let within : i < length stores = omega arith in
    let below = c.with-keepers.ensures.below in
    let one =
    take_more (map (λ s. s.0) stores) i item.0 (rw length-map within)
    ∙ ap (λ (n : ℕ). take i (map (λ s. s.0) stores) ++ n ∷ [])
    (get_or-map (λ s. s.0) stores i item item.0 within ∙ ap (λ s. s.0) (sym c.loop-keeper-item.is)) in
    rw (one, c.with-keepers.ensures.value)
    (member_more (take i (map (λ s. s.0) stores)) item.0 c.loop-keeper.keepers (omega arith) c.loop-keeper.invariant)

pub returns : goal.returns
returns c =
    let stores = c.args.stores.now in
    let all = take_all c.loop-keeper.keeper-index (map (λ s. s.0) stores) (rw length-map (omega arith)) in
    subst (AreMembers c.loop-keeper.keepers) all c.loop-keeper.invariant.members
