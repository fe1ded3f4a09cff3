use Rattle.std.proofs.Common.{◌≡◌, ◌+◌, ◌^◌, ◌≤◌, ◌++◌, length}
use Rattle.std.specs.List.{AllByRecursion}
use Rattle.std.specs.Vec.Iter.{into_iter_items}
use Rattle.scripts.specs.Coming.{MayCome}
use Rattle.command_line.specs.FailingOver.{HappenAll}
use Rattle.command_line.proofs.failing_over.apply_all.Given as goal

abbrev pub invariant-loop-event : goal.invariant-loop-event
invariant-loop-event l = record {
  left : AllByRecursion (MayCome l.world.image.harts) (into_iter_items l.event-iterator);
  lines : l.line + length (into_iter_items l.event-iterator) ≤ 2 ^ 63;
  happened : HappenAll l.fn.world l.yielded l.world;
  number : l.line ≡ length l.yielded;
  parts : l.yielded ++ into_iter_items l.event-iterator ≡ into_iter_items l.initial.event-iterator;
}
