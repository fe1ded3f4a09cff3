use Rattle.std.proofs.Common.{◌≡◌}
use Rattle.log_audit.proofs.Asking.{lacking}
use Rattle.moments.specs.machinery.Parts.{contents_of, owned}
use Rattle.moments.proofs.machines.SteppedMachine.step.Given as goal

abbrev pub invariant-loop-page : goal.invariant-loop-page
invariant-loop-page l =
    record {
      harts : l.self.harts.items ≡ l.initial.self.harts.items;
      contents : contents_of l.self.ram.parts.items ≡ contents_of l.initial.self.ram.parts.items;
    }

abbrev pub decreases-loop-page : goal.decreases-loop-page
decreases-loop-page l = lacking (owned l.self.ram.parts.items)
