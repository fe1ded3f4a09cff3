use Rattle.std.proofs.Common.{◌≡◌, ◌≤◌, ◌-◌}
use Rattle.hart_lease.specs.Runs.{counts_of}
use Rattle.log_audit.specs.machinery.Covered.{machine_of, steps_left, InForce, IsOn, IsQuietTo}
use Rattle.log_audit.proofs.harts.Harts.go_to.Given as goal

abbrev pub invariant-loop-state : goal.invariant-loop-state
invariant-loop-state l =
    record {
      start : l.self.start ≡ l.fn.self.start;
      on : IsOn l.leg l.self;
      force : InForce l.self.befores l.hart l.before;
      quiet : IsQuietTo l.leg l.hart (counts_of (machine_of l.self) l.hart) l.stop;
      left : steps_left l.leg.ends l.self.harts ≤ steps_left l.leg.ends l.fn.self.harts;
    }

abbrev pub decreases-loop-state : goal.decreases-loop-state
decreases-loop-state l = l.stop - counts_of (machine_of l.self) l.hart
