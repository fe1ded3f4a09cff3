use Rattle.std.proofs.Common.{subst}
use Rattle.live_world.specs.Views.{GoesTo, LiveView}
use Rattle.live_world.proofs.Clients.{clients_move}
use Rattle.live_world.proofs.Firsts.{goes_on}
use Rattle.live_world.proofs.world.LiveWorld.apply.Goals as goal

pub invariant_of-self : goal.invariant_of-self
invariant_of-self c = goes_on c.self.inside.parts c.at_keeper.new.self c.at_keeper.ensures.goes c.self.invariant

pub invariant_of-self-in-Primary : goal.invariant_of-self-in-Primary
invariant_of-self-in-Primary c = goes_on c.self.inside.parts c.at_primary.new.self c.at_primary.ensures.goes c.self.invariant

pub invariant_of-self-in-Client : goal.invariant_of-self-in-Client
invariant_of-self-in-Client c =
    goes_on c.self.inside.parts c.at_client.new.self
    (clients_move c.self.inside.parts c.at_client.new.self c.in-Client.event c.at_client.result c.at_client.ensures.happens c.at_client.ensures.left)
    c.self.invariant

pub returns-in-Client-clause-goes : goal.returns-in-Client-clause-goes
returns-in-Client-clause-goes c =
    subst (λ (v : LiveView). GoesTo v c.at_client.new.self) c.self.view_is
    (clients_move c.self.inside.parts c.at_client.new.self c.in-Client.event c.at_client.result c.at_client.ensures.happens c.at_client.ensures.left)
