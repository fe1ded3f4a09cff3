use Rattle.std.proofs.Common.{◌≡◌, take, drop, slice_index}
use Rattle.std.specs.List.{enumerate_from, flat_map}
use Rattle.primary.specs.Outputs.{numbered_from}
use Rattle.primary.proofs.outputs.outputs_since.Given as goal

abbrev pub invariant-loop-number : goal.invariant-loop-number
invariant-loop-number l =
    l.outputs.items ≡ flat_map (λ h. numbered_from h.0 (slice_index l.told h.0) (drop (slice_index l.told h.0) h.1.outputs))
    (enumerate_from 0 (take l.number l.machine.harts))
