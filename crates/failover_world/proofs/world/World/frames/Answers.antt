use Rattle.std.proofs.Common.{subst}
use Rattle.failover_world.specs.Worlds.{WorldView}
use Rattle.failover_world.specs.machinery.Tied.{IsWorld}
use Rattle.failover_world.proofs.Honest.{are_honest}
use Rattle.failover_world.proofs.world.World.frames.Goals as goal

pub returns-clause-honest : goal.returns-clause-honest
returns-clause-honest c =
    let is : IsWorld c.args.self.now = subst (λ (v : WorldView). IsWorld v) c.self.view_is c.self.invariant in are_honest c.args.self.now is.tied
