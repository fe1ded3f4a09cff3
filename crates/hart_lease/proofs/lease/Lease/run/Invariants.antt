use Rattle.std.proofs.Common.{◌≢◌, ◌-◌, ℕ, List, Option}
use Rattle.guest_image.specs.Machine.{MachineState}
use Rattle.hart_lease.specs.declared.taken.Taken.{Taken}
use Rattle.hart_lease.specs.Leases.{StepsOn, IsLent, whole}
use Rattle.hart_lease.proofs.lease.Lease.run.Given as goal

abbrev pub invariant-loop-self : goal.invariant-loop-self
invariant-loop-self l = record {
  later : l.self.steps ≢ 0;
  steps : (n : ℕ) × StepsOn n l.fn.self l.self;
  lent : (machine : MachineState) (taken : List (Option Taken)) (earlier : List (ℕ × ℕ)) → IsLent machine taken (whole earlier l.fn.self) → IsLent machine taken
      (whole earlier l.self);
}

abbrev pub decreases-loop-self : goal.decreases-loop-self
decreases-loop-self l = l.self.most - l.self.steps
