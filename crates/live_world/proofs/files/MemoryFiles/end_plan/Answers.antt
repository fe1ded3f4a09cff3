use Rattle.live_world.proofs.Filing.{besides_same, besides_then}
use Rattle.live_world.proofs.files.MemoryFiles.end_plan.Goals as goal

pub loop-init : goal.loop-init
loop-init c = besides_same _ _ c.self.view_is

pub loop-preserved : goal.loop-preserved
loop-preserved c = besides_then c.loop.invariant c.come_to_turn-turn.ensures.besides
