use Rattle.std.proofs.Common.{◌≡◌, ℕ, ◌+◌, ◌<◌, length}
use Rattle.std.specs.Prelude.{slice_index}
use Rattle.debugging.specs.Memories.{byte_in}
use Rattle.debugging.proofs.memory.bytes_of.Given as goal

abbrev pub invariant-loop-number : goal.invariant-loop-number
invariant-loop-number l = record {
  many : length l.bytes.items ≡ l.number;
  each : (i : ℕ) → i < l.number → slice_index l.bytes.items i ≡ byte_in l.line.stands.machine.pages (l.range.first + i);
}
