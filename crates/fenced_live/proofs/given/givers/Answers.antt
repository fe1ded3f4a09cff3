use Rattle.std.proofs.Common.{◌≡◌, ◌<◌, ◌++◌, ◌∷◌, [], ℕ, rules, map, length, take, arith, subst, ◌∙◌, ap, sym}
use Rattle.std.proofs.lemmas.List.{take_more, take_all, length-map, get_or-map}
use Rattle.go_live.specs.Quorums.{AreMembers}
use Rattle.go_live.proofs.Distinct.{members_none, member_more}
use Rattle.fenced_live.proofs.given.givers.Goals as goal

pub loop-one-init : goal.loop-one-init
loop-one-init c = let sized : length c.new-keepers.result ≡ 5 = search rules in members_none c.new-keepers.result sized c.new-keepers.ensures

pub loop-one-preserved : goal.loop-one-preserved
loop-one-preserved c =
    let stores = c.args.given.now in
    let i = c.loop-one.one-index in
    let item = c.one-item.result in
    let within : i < length stores = omega arith in
    let below = c.with-keepers.ensures.below in
    let one =
    take_more (map (λ g. g.keeper) stores) i item.keeper (rw length-map within)
    ∙ ap (λ (n : ℕ). take i (map (λ g. g.keeper) stores) ++ n ∷ [])
    (get_or-map (λ g. g.keeper) stores i item item.keeper within ∙ ap (λ g. g.keeper) (sym c.one-item.is)) in
    rw (one, c.with-keepers.ensures.value)
    (member_more (take i (map (λ g. g.keeper) stores)) item.keeper c.loop-one.keepers (omega arith) c.loop-one.invariant)

pub returns : goal.returns
returns c =
    let stores = c.args.given.now in
    let all = take_all c.loop-one.one-index (map (λ g. g.keeper) stores) (rw length-map (omega arith)) in
    subst (AreMembers c.loop-one.keepers) all c.loop-one.invariant.members
