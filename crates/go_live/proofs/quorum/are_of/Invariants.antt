use Rattle.std.proofs.Common.{◌≡◌, take}
use Rattle.std.specs.Prelude.{All}
use Rattle.go_live.proofs.quorum.are_of.Given as goal

abbrev pub invariant-loop-store : goal.invariant-loop-store
invariant-loop-store l = All (λ s. s.1.now.guest ≡ l.guest) (take l.store-index l.stores)
