use Rattle.std.proofs.Common.{◌≡◌, ◌≤◌, length, take}
use Rattle.ft_types.specs.declared.names.TheConstants.{INPUT_LIMIT}
use Rattle.input_log.proofs.queue.Queue.bells_next.Given as goal

abbrev pub invariant-loop-place : goal.invariant-loop-place
invariant-loop-place l = record {
  room : length l.bells.items ≤ l.place;
  inline : l.bells.capacity ≡ INPUT_LIMIT;
  taken : l.bells.items ≡ take l.place l.self.bells;
}
