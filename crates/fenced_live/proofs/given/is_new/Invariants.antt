use Rattle.std.proofs.Common.{ℕ, ◌<◌, take}
use Rattle.std.specs.Prelude.{All}
use Rattle.go_live.specs.Quorums.{HasTerm}
use Rattle.fenced_live.proofs.given.is_new.Given as goal

abbrev pub invariant-loop-one : goal.invariant-loop-one
invariant-loop-one l = All (λ g. (other : ℕ) → HasTerm g.store.now other → other < l.term) (take l.one-index l.given)
