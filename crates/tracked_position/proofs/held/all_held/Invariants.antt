use Rattle.std.proofs.Common.{◌≡◌, ℕ, true, false, get_or}
use Rattle.tracked_position.specs.machinery.Waits.{IsHeld}
use Rattle.tracked_position.proofs.held.all_held.Given as goal

abbrev pub invariant-loop : goal.invariant-loop
invariant-loop l = (hart : ℕ) → get_or l.held hart false ≡ true → IsHeld l.waits hart
