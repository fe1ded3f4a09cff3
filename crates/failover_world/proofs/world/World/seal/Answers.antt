use Rattle.std.proofs.Common.{ap, sym, subst, ◌∙◌}
use Rattle.ft_types.specs.Guests.{GuestParts}
use Rattle.failover_world.specs.Worlds.{WorldView}
use Rattle.failover_world.specs.Happenings.{Seals}
use Rattle.failover_world.proofs.Guests.{own_guest}
use Rattle.failover_world.proofs.Sealing.{within, own_cut, sealed_world}
use Rattle.failover_world.proofs.world.World.seal.Goals as goal

pub seal-requires-clause-harts : goal.seal-requires-clause-harts
seal-requires-clause-harts c =
    let v : WorldView = record {
      image = c.self.inside.image;
      keepers = c.self.inside.keepers;
      need = c.self.inside.need;
      primary = c.self.inside.primary;
      runs = c.self.inside.runs;
      stopped = c.self.inside.stopped.items;
      sent = c.self.inside.sent.items;
      stores = c.self.inside.stores.items;
      gate = c.self.inside.gate;
      released = c.self.inside.released.items;
    } in
    c.self.invariant.parts.harts ∙ sym (ap (λ (g : GuestParts). g.harts) (own_guest v c.self.invariant.tied c.self.invariant.parts.guest))

pub seal-requires-clause-reached : goal.seal-requires-clause-reached
seal-requires-clause-reached c =
    let v : WorldView = record {
      image = c.self.inside.image;
      keepers = c.self.inside.keepers;
      need = c.self.inside.need;
      primary = c.self.inside.primary;
      runs = c.self.inside.runs;
      stopped = c.self.inside.stopped.items;
      sent = c.self.inside.sent.items;
      stores = c.self.inside.stores.items;
      gate = c.self.inside.gate;
      released = c.self.inside.released.items;
    } in
    c.self.invariant.parts.reached ∙ sym (ap (λ (g : GuestParts). g.harts) (own_guest v c.self.invariant.tied c.self.invariant.parts.guest))

pub seal-requires-clause-within : goal.seal-requires-clause-within
seal-requires-clause-within c =
    let v : WorldView = record {
      image = c.self.inside.image;
      keepers = c.self.inside.keepers;
      need = c.self.inside.need;
      primary = c.self.inside.primary;
      runs = c.self.inside.runs;
      stopped = c.self.inside.stopped.items;
      sent = c.self.inside.sent.items;
      stores = c.self.inside.stores.items;
      gate = c.self.inside.gate;
      released = c.self.inside.released.items;
    } in
    within v c.self.invariant.tied

pub invariant_of-self-2 : goal.invariant_of-self-2
invariant_of-self-2 c =
    let v : WorldView = record {
      image = c.self.inside.image;
      keepers = c.self.inside.keepers;
      need = c.self.inside.need;
      primary = c.self.inside.primary;
      runs = c.self.inside.runs;
      stopped = c.self.inside.stopped.items;
      sent = c.self.inside.sent.items;
      stores = c.self.inside.stores.items;
      gate = c.self.inside.gate;
      released = c.self.inside.released.items;
    } in
    let (frames, cut, more) = c.in_ok-seal.ensures.cut in
    sealed_world v c.self.invariant c.if-not-self.false c.seal.new.self c.seal.new.sent.items frames cut c.seal.ensures.rest more

pub returns-clause-happens : goal.returns-clause-happens
returns-clause-happens c =
    let v : WorldView = record {
      image = c.self.inside.image;
      keepers = c.self.inside.keepers;
      need = c.self.inside.need;
      primary = c.self.inside.primary;
      runs = c.self.inside.runs;
      stopped = c.self.inside.stopped.items;
      sent = c.self.inside.sent.items;
      stores = c.self.inside.stores.items;
      gate = c.self.inside.gate;
      released = c.self.inside.released.items;
    } in
    let (frames, cut, more) = c.in_ok-seal.ensures.cut in
    let w : WorldView = record v { primary = c.seal.new.self; sent = c.seal.new.sent.items } in
    subst (λ (x : WorldView). Seals x w) c.self.view_is
    (record {
      runs = c.if-not-self.false;
      frames = frames;
      cut = own_cut v c.self.invariant c.seal.new.self.sealed frames cut;
      rest = λ i. record v { primary = c.seal.ensures.rest i; sent = more i };
    })
