use Rattle.std.proofs.Common.{◌<◌, ◌↔◌, ℕ}
use Rattle.ft_types.specs.Sets.{IsMember}
use Rattle.book_modes.specs.Recordings.{IsTaker}
use Rattle.book_modes.proofs.recording.Recording.takers.Given as goal

abbrev pub invariant-loop-number : goal.invariant-loop-number
invariant-loop-number l = (g : ℕ) → IsMember l.harts g ↔ ((g < l.number) × IsTaker l.self l.leases l.asked g)
