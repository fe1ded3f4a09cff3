use Rattle.std.proofs.Common.{◌≡◌, ◌∷◌, rules, length, map, subst, sym, arith}
use Rattle.go_live.specs.Quorums.{AreMembers}
use Rattle.go_live.proofs.Distinct.{enough_by, member_first}
use Rattle.warm_live.proofs.checks.are_enough.Goals as goal

pub returns : goal.returns
returns c =
    let others = map (λ s. s.0) c.args.stores.now in
    let sized : length c.keepers_of.result ≡ 5 = search rules in
    let all : length c.with.result ≡ 5 = search rules in
    let below = c.with.ensures.below in
    let members : AreMembers c.with.result (c.args.own ∷ others) =
    subst (λ set. AreMembers set (c.args.own ∷ others)) (sym c.with.ensures.value)
    (member_first others c.args.own c.keepers_of.result (omega (arith, sized, below)) c.keepers_of.ensures) in
    rw (sym c.keepers.ensures.value, sym c.need.ensures.value)
    (enough_by c.with.result (c.args.own ∷ others) c.keepers.result c.need.result members all (omega (arith, c.keepers.ensures.limit)) c.suffice.ensures)
