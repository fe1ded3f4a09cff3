use Rattle.std.proofs.Common.{◌≡◌, rules, length, map, arith}
use Rattle.go_live.proofs.Distinct.{enough_by}
use Rattle.go_live.proofs.quorum.are_enough.Goals as goal

pub returns : goal.returns
returns c =
    let sized : length c.keepers_of.result ≡ 5 = search rules in
    enough_by c.keepers_of.result (map (λ s. s.0) c.args.stores.now) c.args.keepers c.args.need c.keepers_of.ensures sized (omega arith) c.suffice.ensures
