use Rattle.std.proofs.Common.{◌+◌, ◌-◌, map}
use Rattle.hart_lease.specs.Slots.{want_of}
use Rattle.lease_rounds.specs.Leading.{IsAlone, Fills, lacking}
use Rattle.lease_rounds.proofs.rounds.fill.Given as goal

abbrev pub invariant-loop-lease : goal.invariant-loop-lease
invariant-loop-lease g l =
    record {
      fills : Fills g.M.Mode l.fn.book l.fn.lease l.book l.lease;
      alone : IsAlone l.book l.lease;
    }

abbrev pub decreases-loop-lease : goal.decreases-loop-lease
decreases-loop-lease g l = (l.lease.stop - l.lease.present.count) + lacking (map want_of l.lease.slots)
