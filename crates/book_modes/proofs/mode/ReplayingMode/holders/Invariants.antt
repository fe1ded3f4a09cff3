use Rattle.std.proofs.Common.{◌<◌, ◌↔◌, ℕ}
use Rattle.ft_types.specs.Sets.{IsMember}
use Rattle.hart_lease.specs.OpenLeases.{IsHolder}
use Rattle.book_modes.proofs.mode.ReplayingMode.holders.Given as goal

abbrev pub invariant-loop-number : goal.invariant-loop-number
invariant-loop-number l = (g : ℕ) → IsMember l.harts g ↔ ((g < l.number) × IsHolder l.leases l.asked.hart l.asked.page l.asked.want g)
