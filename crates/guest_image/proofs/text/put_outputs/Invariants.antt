use Rattle.std.proofs.Common.{◌≡◌, ◌+◌, ◌-◌, ◌*◌, ◌≤◌, length, drop}
use Rattle.guest_image.specs.Text.{numbered, output_line}
use Rattle.guest_image.specs.machinery.Fronts.{AreFronts}
use Rattle.guest_image.proofs.text.put_outputs.Given as goal

abbrev pub invariant-loop-left : goal.invariant-loop-left
invariant-loop-left l =
    (l.left ≤ length l.outputs) × (l.number ≡ l.first + l.left) × (length l.block ≡ 20480)
    × (l.start ≤ 20480) × (20480 ≤ l.start + 69 * (length l.outputs - l.left))
    × AreFronts l.fronts
    × (drop l.start l.block ≡ numbered output_line l.number (drop l.left l.outputs))

abbrev pub decreases-loop-left : goal.decreases-loop-left
decreases-loop-left l = l.left
