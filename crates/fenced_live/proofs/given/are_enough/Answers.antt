use Rattle.std.proofs.Common.{◌≡◌, rules, length, map, arith}
use Rattle.go_live.proofs.Distinct.{enough_by}
use Rattle.fenced_live.proofs.given.are_enough.Goals as goal

pub returns : goal.returns
returns c =
    let sized : length c.givers.result ≡ 5 = search rules in
    enough_by c.givers.result (map (λ g. g.keeper) c.args.given.now) c.args.keepers c.args.need c.givers.ensures sized (omega arith) c.suffice.ensures
