use Rattle.std.proofs.Common.{◌≡◌, ◌≤◌, ◌++◌, take, filter, length}
use Rattle.output_gate.specs.Gates.{is_held}
use Rattle.output_gate.proofs.line.give_each.Given as goal

abbrev pub invariant-loop-output : goal.invariant-loop-output
invariant-loop-output l = record {
  given : l.given.items ≡ l.initial.given.items ++ filter (is_held l.need l.noted) (take l.output-index l.waiting);
  number : l.held ≡ length (filter (is_held l.need l.noted) (take l.output-index l.waiting));
  few : l.held ≤ l.output-index;
}
