use Rattle.std.proofs.Common.{◌≡◌, ◌<◌, ◌≤◌, ℕ, [], Some, length, slice_get}
use Rattle.rv32_hart.specs.Hart.{Hart}
use Rattle.requests.specs.declared.queue.TheConstants.{WORD_LIMIT}
use Rattle.leading.specs.Leaders.{queue_at}
use Rattle.leading.proofs.inputs.queues_of.Given as goal

abbrev pub invariant-loop-number : goal.invariant-loop-number
invariant-loop-number l = record {
  many : length l.queues.items ≡ l.number;
  behind : (hart : ℕ) (h : Hart) → hart < l.number → slice_get l.machine.harts hart ≡ Some h →
      queue_at l.queues.items hart ≡ record { handed = h.received.input_sequence; waiting = [] };
  limit : (hart : ℕ) (h : Hart) → hart < l.number → slice_get l.machine.harts hart ≡ Some h → h.received.input_sequence ≤ WORD_LIMIT;
}
