use Rattle.std.proofs.Common.{ℕ, List, length, drop, ◌≤◌}
use Rattle.fragment_codec.specs.Streams.{Splits}
use Rattle.stations.proofs.log_front.size_of.Given as goal

abbrev pub invariant-loop-frame : goal.invariant-loop-frame
invariant-loop-frame l =
    (last : List ℕ) → Splits l.bytes l.frames last → (l.size ≤ length l.bytes) × Splits (drop l.size l.bytes) (drop l._frame-index l.frames) last
