use Rattle.std.proofs.Common.{map, take}
use Rattle.go_live.proofs.Distinct.{HasThese}
use Rattle.fenced_live.proofs.given.givers.Given as goal

abbrev pub invariant-loop-one : goal.invariant-loop-one
invariant-loop-one l = HasThese (take l.one-index (map (λ g. g.keeper) l.given)) l.keepers
