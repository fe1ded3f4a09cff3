use Rattle.std.proofs.Common.{◌≡◌, ◌+◌, ◌*◌, ◌<◌, ℕ, length, max, min, slice_index}
use Rattle.pair.specs.declared.rounds.TheConstants.{ROUND}
use Rattle.pair.proofs.rounds.rounds_on.Given as goal

abbrev pub invariant-loop-number : goal.invariant-loop-number
invariant-loop-number l = record {
  harts : length l.end ≡ length l.counts;
  gone : (hart : ℕ) → hart < l.number →
      slice_index l.end hart ≡ max (slice_index l.counts hart) (min l.budget (slice_index l.counts hart + l.rounds * ROUND));
}
