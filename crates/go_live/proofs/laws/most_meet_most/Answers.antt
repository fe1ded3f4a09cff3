use Rattle.std.proofs.Common.{◌<◌, ◌≤◌, ◌+◌, ◌-◌, arith}
use Rattle.go_live.specs.Quorums.{distinct_below}
use Rattle.go_live.proofs.Distinct.{shared}
use Rattle.go_live.proofs.laws.most_meet_most.Goals as goal

pub returns : goal.returns
returns c = λ keepers ones others one other.
    let here : keepers < distinct_below keepers ones + distinct_below keepers ones = one in
    let there : keepers < distinct_below keepers others + distinct_below keepers others = other in
    shared keepers ones others (omega (arith, here, there))
