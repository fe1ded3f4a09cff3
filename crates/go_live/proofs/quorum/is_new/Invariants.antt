use Rattle.std.proofs.Common.{ℕ, ◌<◌, take}
use Rattle.std.specs.Prelude.{All}
use Rattle.go_live.specs.Quorums.{HasTerm}
use Rattle.go_live.proofs.quorum.is_new.Given as goal

abbrev pub invariant-loop-store : goal.invariant-loop-store
invariant-loop-store l = All (λ s. (other : ℕ) → HasTerm s.1.now other → other < l.term) (take l.store-index l.stores)
