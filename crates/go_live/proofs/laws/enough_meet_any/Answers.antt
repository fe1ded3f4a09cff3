use Rattle.std.proofs.Common.{◌<◌, ◌≤◌, ◌+◌, ◌-◌, arith}
use Rattle.go_live.specs.Quorums.{distinct_below}
use Rattle.go_live.proofs.Distinct.{shared}
use Rattle.go_live.proofs.laws.enough_meet_any.Goals as goal

pub returns : goal.returns
returns c = λ keepers need here holders enough many.
    let are : keepers - need + 1 ≤ distinct_below keepers here = enough in
    shared keepers here holders (omega (arith, are, many))
