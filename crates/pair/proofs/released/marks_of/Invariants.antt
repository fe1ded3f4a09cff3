use Rattle.std.proofs.Common.{◌≡◌, ◌<◌, ℕ, Bool, length, take, slice_index_or}
use Rattle.pair.specs.Released.{is_among, output_at}
use Rattle.pair.proofs.released.marks_of.Given as goal

abbrev pub invariant-loop-output : goal.invariant-loop-output
invariant-loop-output l = record {
  each : length l.marks.items ≡ length l.said;
  marks : (n : ℕ) (other : Bool) → n < length l.said → slice_index_or l.marks.items n other ≡ is_among (take l.output-index l.given) (output_at l.hart l.said n);
}
