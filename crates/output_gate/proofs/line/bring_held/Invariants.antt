use Rattle.std.proofs.Common.{◌≡◌, ◌≤◌, ◌++◌, take, drop, filter, length}
use Rattle.output_gate.specs.Gates.{is_held, is_not_held}
use Rattle.output_gate.proofs.line.bring_held.Given as goal

abbrev pub invariant-loop-place : goal.invariant-loop-place
invariant-loop-place l = record {
  order : l.waiting ≡ (filter (is_held l.need l.noted) (take l.place l.initial.waiting) ++ filter (is_not_held l.need l.noted)
      (take l.place l.initial.waiting)) ++ drop l.place l.initial.waiting;
  number : l.held ≡ length (filter (is_held l.need l.noted) (take l.place l.initial.waiting));
  few : l.held ≤ l.place;
}
