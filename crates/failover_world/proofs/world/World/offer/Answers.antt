use Rattle.failover_world.specs.Worlds.{WorldView}
use Rattle.failover_world.proofs.Stepping.{was_offered}
use Rattle.failover_world.proofs.world.World.offer.Goals as goal

pub invariant_of-self-2 : goal.invariant_of-self-2
invariant_of-self-2 c =
    let v : WorldView = record {
      image = c.self.inside.image;
      keepers = c.self.inside.keepers;
      need = c.self.inside.need;
      primary = c.self.inside.primary;
      runs = c.self.inside.runs;
      stopped = c.self.inside.stopped.items;
      sent = c.self.inside.sent.items;
      stores = c.self.inside.stores.items;
      gate = c.self.inside.gate;
      released = c.self.inside.released.items;
    } in
    was_offered v c.self.invariant c.if-not-self.false c.offer.new.self c.offer.ensures.goes_on c.offer.ensures.limits c.offer.ensures.rest
