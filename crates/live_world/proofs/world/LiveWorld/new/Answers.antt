use Rattle.std.proofs.Common.{sym, subst}
use Rattle.process_world.specs.Worlds.{ProcessWorld}
use Rattle.process_world.specs.Happenings.{Comes}
use Rattle.live_world.specs.Views.{IsWorldOf, LiveView}
use Rattle.live_world.proofs.Firsts.{first_comes}
use Rattle.live_world.proofs.world.LiveWorld.new.Goals as goal

pub invariant_of-result : goal.invariant_of-result
invariant_of-result c =
    subst (λ (v : LiveView). (p : ProcessWorld) × Comes v.image v.quorum.keepers v.quorum.need p × IsWorldOf v p) (sym c.in_ok-parts.ensures)
    (first_comes c.args.image.now c.args.quorum)
