use Rattle.std.proofs.Common.{◌≡◌, ◌+◌, ◌-◌, ◌*◌, ◌≤◌, length, drop}
use Rattle.std.specs.List.{flat_map}
use Rattle.pair.specs.Printing.{output_line}
use Rattle.pair.proofs.printing.put_outputs.Given as goal

abbrev pub invariant-loop-left : goal.invariant-loop-left
invariant-loop-left l =
    (l.left ≤ length l.outputs) × (length l.block ≡ 4096)
    × (l.start ≤ 4096) × (4096 ≤ l.start + 103 * (length l.outputs - l.left))
    × (drop l.start l.block ≡ flat_map output_line (drop l.left l.outputs))

abbrev pub decreases-loop-left : goal.decreases-loop-left
decreases-loop-left l = l.left
