use Rattle.std.proofs.Common.{subst}
use Rattle.process_world.specs.Worlds.{ProcessWorld}
use Rattle.process_world.specs.Happenings.{Comes}
use Rattle.process_world.specs.Promises.{KeepsPromises}
use Rattle.live_world.specs.Views.{IsWorldOf, LiveView}
use Rattle.live_world.proofs.Firsts.{keeps_promises}
use Rattle.live_world.proofs.world.LiveWorld.promises.Goals as goal

pub returns : goal.returns
returns c =
    subst (λ (v : LiveView). (p : ProcessWorld) × Comes v.image v.quorum.keepers v.quorum.need p × IsWorldOf v p × KeepsPromises p) c.self.view_is
    (keeps_promises c.self.inside.parts c.self.invariant)
