use Rattle.std.proofs.Common.{◌≡◌, ◌<◌, ℕ, slice_index, bit_and}
use Rattle.lease_rounds.proofs.page_words.do_meet.Given as goal

abbrev pub invariant-loop-place : goal.invariant-loop-place
invariant-loop-place l = (k : ℕ) → k < l.place → bit_and (slice_index l.these k) (slice_index l.those k) ≡ 0
