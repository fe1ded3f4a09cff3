use Rattle.std.proofs.Common.{◌≡◌, ◌<◌, ℕ, None, Some, slice_get}
use Rattle.rv32_hart.specs.Hart.{Hart}
use Rattle.leading.specs.Leaders.{queue_at}
use Rattle.leading.specs.Rounds.{next_of}
use Rattle.leading.proofs.inputs.has_input.Given as goal

abbrev pub invariant-loop-number : goal.invariant-loop-number
invariant-loop-number l =
    (hart : ℕ) (h : Hart) → hart < l.number → slice_get l.machine.harts hart ≡ Some h → next_of h (queue_at l.queues hart) ≡ None
