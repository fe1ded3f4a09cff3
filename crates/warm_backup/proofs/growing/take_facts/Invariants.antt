use Rattle.std.proofs.Common.{◌-◌, ◌≤◌}
use Rattle.ft_types.specs.Counts.{count_at}
use Rattle.closed_cut.specs.Position.{pieces_of}
use Rattle.warm_backup.proofs.Growth.{SoFar}
use Rattle.warm_backup.proofs.growing.take_facts.Given as goal

abbrev pub invariant-loop-cursor : goal.invariant-loop-cursor
invariant-loop-cursor l =
    let was = l.initial.leg in
    record {
      within : l.cursor.end ≤ l.end;
      so_far : SoFar (pieces_of l.store was.term l.hart) l.hart (count_at was.ends l.hart) l.end (count_at l.now) was l.initial.rest l.cursor.place l.cursor.end
          l.leg l.rest;
    }

abbrev pub decreases-loop-cursor : goal.decreases-loop-cursor
decreases-loop-cursor l = l.end - l.cursor.end
