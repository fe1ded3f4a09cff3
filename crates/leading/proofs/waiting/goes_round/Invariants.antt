use Rattle.std.proofs.Common.{◌≡◌}
use Rattle.rv32_hart.specs.Hart.{without_outputs}
use Rattle.hart_lease.specs.Slots.{ram_of}
use Rattle.leading.specs.Waiting.{TakesSteps}
use Rattle.leading.proofs.GoingRound.{NotYet}
use Rattle.leading.proofs.waiting.goes_round.Given as goal

abbrev pub invariant-loop-step : goal.invariant-loop-step
invariant-loop-step l = record {
  pages : ram_of l.pages ≡ ram_of l.fn.pages;
  takes : TakesSteps l._step (ram_of l.fn.pages) (without_outputs l.stand) l.state;
  never : NotYet l._step (ram_of l.fn.pages) l.stand;
}
