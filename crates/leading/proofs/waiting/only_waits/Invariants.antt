use Rattle.std.proofs.Common.{◌≡◌, ◌<◌, ℕ, Some, slice_get}
use Rattle.rv32_hart.specs.Hart.{Hart}
use Rattle.hart_lease.specs.Slots.{ram_of}
use Rattle.leading.specs.Waiting.{Waits, only_read}
use Rattle.leading.proofs.waiting.only_waits.Given as goal

abbrev pub invariant-loop-number : goal.invariant-loop-number
invariant-loop-number l = record {
  pages : ram_of l.pages ≡ only_read l.machine;
  done : (hart : ℕ) (h : Hart) → hart < l.number → slice_get l.machine.harts hart ≡ Some h → Waits l.machine hart h;
}
