use Rattle.std.proofs.Common.{◌≡◌, ◌++◌}
use Rattle.live_keeper.specs.Turns.{TakesEvents, are_logged, passes}
use Rattle.live_keeper.proofs.turns.Keeping.take_all.Given as goal

abbrev pub invariant-loop-event : goal.invariant-loop-event
invariant-loop-event l = record {
  taken : TakesEvents l.fn.self l.yielded l.self;
  logged : l.logged ≡ are_logged l.yielded;
  passed : l.deeds.items ≡ l.fn.deeds.items ++ passes l.yielded;
}
