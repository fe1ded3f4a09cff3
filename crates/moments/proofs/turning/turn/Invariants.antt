use Rattle.std.proofs.Common.{◌≡◌, ◌≤◌, ◌-◌, length}
use Rattle.plan_lines.specs.Line.{Standing, Leads}
use Rattle.moments.specs.machinery.Machines.{machine_of, standing_of}
use Rattle.plan_lines.specs.machinery.Kept.{QuietAt}
use Rattle.moments.proofs.turning.turn.Given as goal

abbrev pub invariant-loop-now : goal.invariant-loop-now
invariant-loop-now l =
    record {
      leads : (s : Standing) → Leads l.legs s (standing_of l.initial.now) → Leads l.legs s (standing_of l.now);
      place : l.now.leg ≤ length l.legs - 1;
      moment : l.now.moment ≡ l.initial.now.moment;
      machine : machine_of l.now.machine ≡ machine_of l.initial.now.machine;
      quiet : QuietAt l.legs (standing_of l.now) l.stops;
    }

abbrev pub decreases-loop-now : goal.decreases-loop-now
decreases-loop-now l = length l.legs - l.now.leg
