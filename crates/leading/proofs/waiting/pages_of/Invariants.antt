use Rattle.std.proofs.Common.{◌≡◌, ◌<◌, ℕ, length}
use Rattle.hart_lease.specs.Slots.{slot_at}
use Rattle.leading.proofs.GoingRound.{readable}
use Rattle.leading.proofs.waiting.pages_of.Given as goal

abbrev pub invariant-loop-number : goal.invariant-loop-number
invariant-loop-number l = record {
  many : length l.pages ≡ length l.machine.pages;
  same : (page : ℕ) → page < l.number → slot_at l.pages page ≡ slot_at (readable l.machine.pages) page;
}
