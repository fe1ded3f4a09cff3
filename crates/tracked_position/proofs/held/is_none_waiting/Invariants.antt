use Rattle.std.proofs.Common.{◌≡◌, ◌<◌, ℕ, None, get_or}
use Rattle.tracked_position.proofs.held.is_none_waiting.Given as goal

abbrev pub invariant-loop-index : goal.invariant-loop-index
invariant-loop-index l = (hart : ℕ) → hart < l.index → get_or l.waits hart None ≡ None
