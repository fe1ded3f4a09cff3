use Rattle.std.proofs.Common.{false}
use Rattle.failover_world.specs.Worlds.{WorldView}
use Rattle.failover_world.proofs.Parts.{with_rows}
use Rattle.failover_world.proofs.Keeping.{stopped}
use Rattle.failover_world.proofs.world.World.stop.Goals as goal

pub invariant_of-self : goal.invariant_of-self
invariant_of-self c =
    let v : WorldView = record {
      image = c.self.inside.image;
      keepers = c.self.inside.keepers;
      need = c.self.inside.need;
      primary = c.self.inside.primary;
      runs = c.self.inside.runs;
      stopped = c.self.inside.stopped.items;
      sent = c.self.inside.sent.items;
      stores = c.self.inside.stores.items;
      gate = c.self.inside.gate;
      released = c.self.inside.released.items;
    } in
    record { parts = with_rows v c.self.invariant.parts false v.stopped v.sent v.released; tied = stopped v c.self.invariant.tied }
