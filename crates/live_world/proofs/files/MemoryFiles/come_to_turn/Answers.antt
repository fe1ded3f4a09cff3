use Rattle.live_world.specs.Shelves.{Still}
use Rattle.live_world.proofs.Filing.{hand_turn, crash_turn}
use Rattle.live_world.proofs.files.MemoryFiles.come_to_turn.Goals.{in-Hand, in-Crashes}
use Rattle.live_world.proofs.files.MemoryFiles.come_to_turn.Goals as goal

pub loop-init : goal.loop-init
loop-init c = Still

pub loop-preserved : goal.loop-preserved
loop-preserved c = elim c.match-what.branch [
  | in-Hand w ↦
      rw w.self-is (hand_turn c.args.self.now c.loop.self c.next_planned.new.self w.hand_does-done.new.self w.in-Hand.act w.hand_does-done.result
      c.loop.invariant c.next_planned.ensures w.hand_does-done.ensures.done w.hand_does-done.ensures.err)
  | in-Crashes w ↦
      rw w.self-is (crash_turn c.args.self.now c.loop.self c.next_planned.new.self w.crash.new.self c.loop.invariant c.next_planned.ensures w.crash.ensures)
]
