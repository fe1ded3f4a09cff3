use Rattle.std.proofs.Common.{◌≡◌, slice_set, slice_get, length, Some, sym, ap, subst, ◌∙◌, arith}
use Rattle.std.proofs.lemmas.Option.{slice_get-get_or}
use Rattle.log_join.specs.Stores.{StoreView, IsJoin, alone}
use Rattle.failover_world.specs.Worlds.{WorldView, store_at}
use Rattle.failover_world.proofs.Parts.{with_store}
use Rattle.failover_world.proofs.Keeping.{contained, delivered}
use Rattle.failover_world.proofs.Guests.{not_foreign}
use Rattle.std.proofs.Common.{length-set, take, drop, ◌++◌}
use Rattle.failover_world.proofs.Rows.{put_back_whole}
use Rattle.failover_world.specs.Happenings.{Delivers}
use Rattle.failover_world.specs.machinery.Tied.{IsWorld}
use Rattle.failover_world.proofs.world.World.deliver.Goals as goal

-- the keeper's store
module _ (c : goal.After-deref_mut) where
  at : store_at c.self.inside.stores.items c.in-Some.keeper ≡ Some c.in-Some.ensures.there.0
  at =
      ap (store_at c.self.inside.stores.items) c.in-Some.ensures.some
      ∙ ap (λ stores. store_at stores c.args.keeper) (sym c.deref.ensures.value)
      ∙ c.in-Some.ensures.there.1

  sent : slice_get c.self.inside.sent.items c.args.frame ≡ Some c.in_ok-copy.copy
  sent =
      let lt = c.if-frame-len.false in
      let many = c.len.ensures in
      slice_get-get_or c.self.inside.sent.items c.args.frame c.index.result.now (omega (arith, lt, many))
      ∙ ap Some (sym c.index.ensures ∙ sym c.in_ok-copy.ensures)

pub put-requires-clause-there : goal.put-requires-clause-there
put-requires-clause-there c =
    (c.in-Some.ensures.there.0, ap (λ stores. store_at stores c.in-Some.keeper) c.deref_mut.ensures.value ∙ at c)

pub put-requires-clause-own : goal.put-requires-clause-own
put-requires-clause-own c = λ s is.
    let v : WorldView = record {
      image = c.self.inside.image;
      keepers = c.self.inside.keepers;
      need = c.self.inside.need;
      primary = c.self.inside.primary;
      runs = c.self.inside.runs;
      stopped = c.self.inside.stopped.items;
      sent = c.self.inside.sent.items;
      stores = c.self.inside.stores.items;
      gate = c.self.inside.gate;
      released = c.self.inside.released.items;
    } in
    not_foreign v c.self.invariant.tied c.self.invariant.parts.guest c.in-Some.keeper s c.in_ok-copy.copy
    (ap (λ stores. store_at stores c.in-Some.keeper) (sym c.deref_mut.ensures.value) ∙ is) (contained v.sent c.args.frame c.in_ok-copy.copy (sent c))

-- the keepers' stores with the frame put to one
module _ (c : goal.In_ok-put) where
  there : store_at c.self.inside.stores.items c.in-Some.keeper ≡ Some c.in-Some.ensures.there.0
  there =
      ap (store_at c.self.inside.stores.items) c.in-Some.ensures.some
      ∙ ap (λ stores. store_at stores c.args.keeper) (sym c.deref.ensures.value)
      ∙ c.in-Some.ensures.there.1

  put_there : (r : StoreView) × IsJoin c.in-Some.ensures.there.0 (alone c.in_ok-copy.copy) r ×
      (c.put.new.stores ≡ slice_set c.deref_mut.result.now c.in-Some.keeper (Some r))
  put_there = c.in_ok-put.ensures.joined c.in-Some.ensures.there.0 (ap (λ stores. store_at stores c.in-Some.keeper) c.deref_mut.ensures.value ∙ there)

  back : take c.self.inside.stores.len (c.put.new.stores ++ drop (length c.put.new.stores) c.self.inside.stores.items)
      ≡ slice_set c.self.inside.stores.items c.in-Some.keeper (Some put_there.0)
  back =
      put_back_whole c.put.new.stores (drop (length c.put.new.stores) c.self.inside.stores.items) c.self.inside.stores.len
      (ap length put_there.2 ∙ length-set c.deref_mut.result.now c.in-Some.keeper (Some put_there.0) ∙ c.deref_mut.ensures.len)
      ∙ put_there.2
      ∙ ap (λ xs. slice_set xs c.in-Some.keeper (Some put_there.0)) c.deref_mut.ensures.value

  was_sent : slice_get c.self.inside.sent.items c.args.frame ≡ Some c.in_ok-copy.copy
  was_sent =
      let lt = c.if-frame-len.false in
      let many = c.len.ensures in
      slice_get-get_or c.self.inside.sent.items c.args.frame c.index.result.now (omega (arith, lt, many))
      ∙ ap Some (sym c.index.ensures ∙ sym c.in_ok-copy.ensures)

pub invariant_of-self-2 : goal.invariant_of-self-2
invariant_of-self-2 c =
    let v : WorldView = record {
      image = c.self.inside.image;
      keepers = c.self.inside.keepers;
      need = c.self.inside.need;
      primary = c.self.inside.primary;
      runs = c.self.inside.runs;
      stopped = c.self.inside.stopped.items;
      sent = c.self.inside.sent.items;
      stores = c.self.inside.stores.items;
      gate = c.self.inside.gate;
      released = c.self.inside.released.items;
    } in
    let r = (put_there c).0 in
    subst (λ rows. IsWorld (record v { stores = rows })) (sym (back c))
    (record {
      parts = with_store v c.self.invariant.parts c.in-Some.keeper (Some r);
      tied = delivered v c.self.invariant.tied c.in-Some.keeper c.in-Some.ensures.there.0 (there c) c.args.frame c.in_ok-copy.copy r (was_sent c) (put_there c).1;
    })

pub returns-clause-happens : goal.returns-clause-happens
returns-clause-happens c =
    let v : WorldView = record {
      image = c.self.inside.image;
      keepers = c.self.inside.keepers;
      need = c.self.inside.need;
      primary = c.self.inside.primary;
      runs = c.self.inside.runs;
      stopped = c.self.inside.stopped.items;
      sent = c.self.inside.sent.items;
      stores = c.self.inside.stores.items;
      gate = c.self.inside.gate;
      released = c.self.inside.released.items;
    } in
    let r = (put_there c).0 in
    subst (λ x. Delivers x c.args.keeper c.args.frame (record v {
      stores = take c.self.inside.stores.len
          (c.put.new.stores ++ drop (length c.put.new.stores) c.self.inside.stores.items);
    })) c.self.view_is
    (subst (λ k. Delivers v k c.args.frame (record v {
      stores = take c.self.inside.stores.len
          (c.put.new.stores ++ drop (length c.put.new.stores) c.self.inside.stores.items);
    })) c.in-Some.ensures.some
    (record {
      store = c.in-Some.ensures.there.0;
      there = there c;
      frame = c.in_ok-copy.copy;
      sent = was_sent c;
      joined = r;
      join = (put_there c).1;
      rest = ap (λ rows. let w : WorldView = record v { stores = rows } in w) (back c);
    }))
