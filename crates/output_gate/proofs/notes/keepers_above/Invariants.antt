use Rattle.std.proofs.Common.{◌≡◌, ◌≤◌, take}
use Rattle.output_gate.specs.Gates.{holder_count}
use Rattle.output_gate.proofs.notes.keepers_above.Given as goal

abbrev pub invariant-loop-keeper : goal.invariant-loop-keeper
invariant-loop-keeper l = record {
  few : l.keepers ≤ l.keeper;
  counted : l.keepers ≡ holder_count (take l.keeper l.noted) l.column l.step;
}
