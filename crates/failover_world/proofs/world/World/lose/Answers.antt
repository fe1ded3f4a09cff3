use Rattle.std.proofs.Common.{◌≡◌, Some, None, sym, ap, ◌∙◌}
use Rattle.failover_world.specs.Worlds.{WorldView, store_at}
use Rattle.failover_world.proofs.Parts.{with_store}
use Rattle.failover_world.proofs.Keeping.{lost}
use Rattle.failover_world.proofs.world.World.lose.Goals as goal

pub invariant_of-self : goal.invariant_of-self
invariant_of-self c =
    let v : WorldView = record {
      image = c.self.inside.image;
      keepers = c.self.inside.keepers;
      need = c.self.inside.need;
      primary = c.self.inside.primary;
      runs = c.self.inside.runs;
      stopped = c.self.inside.stopped.items;
      sent = c.self.inside.sent.items;
      stores = c.self.inside.stores.items;
      gate = c.self.inside.gate;
      released = c.self.inside.released.items;
    } in
    let (s, at) = c.in-Some.ensures.there in
    let there : store_at v.stores c.index.result ≡ Some s =
    ap (store_at v.stores) (c.index.ensures.value ∙ c.in-Some.ensures.some) ∙ ap (λ stores. store_at stores c.args.keeper) (sym c.deref.ensures.value) ∙ at in
    record { parts = with_store v c.self.invariant.parts c.index.result None; tied = lost v c.self.invariant.tied c.index.result s there }
