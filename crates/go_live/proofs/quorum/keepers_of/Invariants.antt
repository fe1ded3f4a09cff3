use Rattle.std.proofs.Common.{map, take}
use Rattle.go_live.proofs.Distinct.{HasThese}
use Rattle.go_live.proofs.quorum.keepers_of.Given as goal

abbrev pub invariant-loop-keeper : goal.invariant-loop-keeper
invariant-loop-keeper l = HasThese (take l.keeper-index (map (λ s. s.0) l.stores)) l.keepers
