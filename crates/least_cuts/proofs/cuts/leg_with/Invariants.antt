use Rattle.std.proofs.Common.{◌<◌, All, take}
use Rattle.ft_types.specs.Counts.{count_at}
use Rattle.least_cuts.proofs.cuts.leg_with.Given as goal

abbrev pub invariant-loop-number : goal.invariant-loop-number
invariant-loop-number l = All (λ leg. count_at leg.ends l.hart < l.count) (take l.number l.legs)
