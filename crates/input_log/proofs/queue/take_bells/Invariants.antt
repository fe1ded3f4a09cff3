use Rattle.std.proofs.Common.{◌≡◌, ◌++◌, ◌-◌, ◌≤◌, length, map, take, drop}
use Rattle.ft_types.specs.declared.names.TheConstants.{INPUT_LIMIT}
use Rattle.input_log.specs.declared.Input.TheVariants.{Bell}
use Rattle.input_log.proofs.queue.take_bells.Given as goal

abbrev pub invariant-loop : goal.invariant-loop
invariant-loop l = record {
  room : length l.inputs.items ≤ l.counter;
  inline : l.inputs.capacity ≡ INPUT_LIMIT;
  taken : l.inputs.items ++ map (λ b. Bell b.source) (take (INPUT_LIMIT - l.counter) l.bells.items) ≡ map (λ b. Bell b.source) (take INPUT_LIMIT l.fn.bells.items);
  stay : drop (INPUT_LIMIT - l.counter) l.bells.items ≡ drop INPUT_LIMIT l.fn.bells.items;
}
