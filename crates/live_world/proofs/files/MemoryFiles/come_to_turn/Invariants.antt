use Rattle.live_world.specs.Shelves.{Besides}
use Rattle.live_world.proofs.files.MemoryFiles.come_to_turn.Given as goal

abbrev pub invariant-loop : goal.invariant-loop
invariant-loop l = Besides l.fn.self l.self
