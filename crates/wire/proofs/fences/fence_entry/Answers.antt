use Rattle.std.proofs.Common.{length, ap, ◌∙◌, arith}
use Rattle.wire.proofs.LastFences.{fence_short}
use Rattle.wire.proofs.fences.fence_entry.Goals as goal

pub push-requires-2 : goal.push-requires-2
push-requires-2 c = omega (
  arith,
  fence_short c.args.guest.now c.args.term (omega arith),
  ap length (c.as_slice.ensures.value ∙ c.fence_line.ensures),
  c.push.ensures.len,
  ap length c.new-entry.ensures,
)
