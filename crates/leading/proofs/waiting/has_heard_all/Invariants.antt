use Rattle.std.proofs.Common.{◌≡◌, ◌<◌, ℕ, Some, slice_get, slice_index}
use Rattle.rv32_hart.specs.Hart.{Hart}
use Rattle.leading.proofs.waiting.has_heard_all.Given as goal

abbrev pub invariant-loop-number : goal.invariant-loop-number
invariant-loop-number l =
    (source : ℕ) (s : Hart) → source < l.number → slice_get l.machine.harts source ≡ Some s →
    slice_index s.rung l.hart ≡ slice_index l.state.received.heard source
