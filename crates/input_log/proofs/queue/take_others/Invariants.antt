use Rattle.std.proofs.Common.{◌≡◌, ◌++◌, ◌-◌, ◌+◌, ◌≤◌, length, map}
use Rattle.ft_types.specs.declared.names.TheConstants.{INPUT_LIMIT}
use Rattle.input_log.specs.Waiting.{others_going, others_staying}
use Rattle.input_log.proofs.queue.take_others.Given as goal

abbrev pub invariant-loop : goal.invariant-loop
invariant-loop l = record {
  room : length l.inputs.items ≤ length l.fn.inputs.items + l.counter;
  inline : l.inputs.capacity ≡ INPUT_LIMIT;
  taken : l.inputs.items ++ map (λ w. w.input) (others_going l.count (l.room - l.counter) l.others.items) ≡
      l.fn.inputs.items ++ map (λ w. w.input) (others_going l.count l.room l.fn.others.items);
  stay : others_staying l.count (l.room - l.counter) l.others.items ≡ others_staying l.count l.room l.fn.others.items;
}
