use Rattle.std.proofs.Common.{◌≡◌, slice_set, length, Some, refl, sym, ap, subst, ◌∙◌, arith}
use Rattle.log_join.specs.Stores.{StoreView, IsJoin}
use Rattle.failover_world.specs.Worlds.{WorldView, store_at}
use Rattle.failover_world.proofs.Parts.{with_store}
use Rattle.failover_world.proofs.Keeping.{joined}
use Rattle.failover_world.proofs.Guests.{store_guest}
use Rattle.std.proofs.Common.{length-set, take, drop, ◌++◌}
use Rattle.failover_world.proofs.Rows.{put_back_whole}
use Rattle.failover_world.specs.Happenings.{Joins}
use Rattle.failover_world.specs.machinery.Tied.{IsWorld}
use Rattle.failover_world.proofs.world.World.join.Goals as goal

pub returns-in_default-keeper_at-clause-refused : goal.returns-in_default-keeper_at-clause-refused
returns-in_default-keeper_at-clause-refused c = (
  1,
  c.args.other,
  omega arith,
  refl,
  ap (λ (v : WorldView). store_at v.stores c.args.other) (sym c.self.view_is)
      ∙ ap (λ stores. store_at stores c.args.other) (sym c.deref-2.ensures.value)
      ∙ c.in_default-keeper_at.ensures.none,
)

module _ (c : goal.After-deref_mut) where
  there : store_at c.self.inside.stores.items c.in-Some.keeper ≡ Some c.in-Some.ensures.there.0
  there =
      ap (store_at c.self.inside.stores.items) c.in-Some.ensures.some
      ∙ ap (λ stores. store_at stores c.args.keeper) (sym c.deref.ensures.value)
      ∙ c.in-Some.ensures.there.1

  at_other : store_at c.self.inside.stores.items c.in-Some-keeper_at.other ≡ Some c.in-Some-keeper_at.ensures.there.0
  at_other =
      ap (store_at c.self.inside.stores.items) c.in-Some-keeper_at.ensures.some
      ∙ ap (λ stores. store_at stores c.args.other) (sym c.deref-2.ensures.value)
      ∙ c.in-Some-keeper_at.ensures.there.1

pub join-requires-clause-there : goal.join-requires-clause-there
join-requires-clause-there c =
    (c.in-Some.ensures.there.0, ap (λ stores. store_at stores c.in-Some.keeper) c.deref_mut.ensures.value ∙ there c)

pub join-requires-clause-at_other : goal.join-requires-clause-at_other
join-requires-clause-at_other c =
    (c.in-Some-keeper_at.ensures.there.0, ap (λ stores. store_at stores c.in-Some-keeper_at.other) c.deref_mut.ensures.value ∙ at_other c)

pub join-requires-clause-own : goal.join-requires-clause-own
join-requires-clause-own c = λ s t is at.
    let v : WorldView = record {
      image = c.self.inside.image;
      keepers = c.self.inside.keepers;
      need = c.self.inside.need;
      primary = c.self.inside.primary;
      runs = c.self.inside.runs;
      stopped = c.self.inside.stopped.items;
      sent = c.self.inside.sent.items;
      stores = c.self.inside.stores.items;
      gate = c.self.inside.gate;
      released = c.self.inside.released.items;
    } in
    store_guest v c.self.invariant.tied c.self.invariant.parts.guest c.in-Some.keeper s
    (ap (λ stores. store_at stores c.in-Some.keeper) (sym c.deref_mut.ensures.value) ∙ is)
    ∙ sym (store_guest v c.self.invariant.tied c.self.invariant.parts.guest c.in-Some-keeper_at.other t
    (ap (λ stores. store_at stores c.in-Some-keeper_at.other) (sym c.deref_mut.ensures.value) ∙ at))

module _ (c : goal.In_ok-join) where
  own : store_at c.self.inside.stores.items c.in-Some.keeper ≡ Some c.in-Some.ensures.there.0
  own =
      ap (store_at c.self.inside.stores.items) c.in-Some.ensures.some
      ∙ ap (λ stores. store_at stores c.args.keeper) (sym c.deref.ensures.value)
      ∙ c.in-Some.ensures.there.1

  others : store_at c.self.inside.stores.items c.in-Some-keeper_at.other ≡ Some c.in-Some-keeper_at.ensures.there.0
  others =
      ap (store_at c.self.inside.stores.items) c.in-Some-keeper_at.ensures.some
      ∙ ap (λ stores. store_at stores c.args.other) (sym c.deref-2.ensures.value)
      ∙ c.in-Some-keeper_at.ensures.there.1

  joined_there : (r : StoreView) × IsJoin c.in-Some.ensures.there.0 c.in-Some-keeper_at.ensures.there.0 r ×
      (c.join.new.stores ≡ slice_set c.deref_mut.result.now c.in-Some.keeper (Some r))
  joined_there =
      c.in_ok-join.ensures.joined c.in-Some.ensures.there.0 c.in-Some-keeper_at.ensures.there.0
      (ap (λ stores. store_at stores c.in-Some.keeper) c.deref_mut.ensures.value ∙ own)
      (ap (λ stores. store_at stores c.in-Some-keeper_at.other) c.deref_mut.ensures.value ∙ others)

  back : take c.self.inside.stores.len (c.join.new.stores ++ drop (length c.join.new.stores) c.self.inside.stores.items)
      ≡ slice_set c.self.inside.stores.items c.in-Some.keeper (Some joined_there.0)
  back =
      put_back_whole c.join.new.stores (drop (length c.join.new.stores) c.self.inside.stores.items) c.self.inside.stores.len
      (ap length joined_there.2 ∙ length-set c.deref_mut.result.now c.in-Some.keeper (Some joined_there.0) ∙ c.deref_mut.ensures.len)
      ∙ joined_there.2
      ∙ ap (λ xs. slice_set xs c.in-Some.keeper (Some joined_there.0)) c.deref_mut.ensures.value

pub invariant_of-self-2 : goal.invariant_of-self-2
invariant_of-self-2 c =
    let v : WorldView = record {
      image = c.self.inside.image;
      keepers = c.self.inside.keepers;
      need = c.self.inside.need;
      primary = c.self.inside.primary;
      runs = c.self.inside.runs;
      stopped = c.self.inside.stopped.items;
      sent = c.self.inside.sent.items;
      stores = c.self.inside.stores.items;
      gate = c.self.inside.gate;
      released = c.self.inside.released.items;
    } in
    let r = (joined_there c).0 in
    subst (λ rows. IsWorld (record v { stores = rows })) (sym (back c))
    (record {
      parts = with_store v c.self.invariant.parts c.in-Some.keeper (Some r);
      tied = joined v c.self.invariant.tied c.in-Some.keeper c.in-Some.ensures.there.0 (own c) c.in-Some-keeper_at.other
          c.in-Some-keeper_at.ensures.there.0 r (others c) (joined_there c).1;
    })

pub returns-clause-happens : goal.returns-clause-happens
returns-clause-happens c =
    let v : WorldView = record {
      image = c.self.inside.image;
      keepers = c.self.inside.keepers;
      need = c.self.inside.need;
      primary = c.self.inside.primary;
      runs = c.self.inside.runs;
      stopped = c.self.inside.stopped.items;
      sent = c.self.inside.sent.items;
      stores = c.self.inside.stores.items;
      gate = c.self.inside.gate;
      released = c.self.inside.released.items;
    } in
    let r = (joined_there c).0 in
    let rows = take c.self.inside.stores.len (c.join.new.stores ++ drop (length c.join.new.stores) c.self.inside.stores.items) in
    subst (λ x. Joins x c.args.keeper c.args.other (record v { stores = rows })) c.self.view_is
    (subst (λ k. Joins v k c.args.other (record v { stores = rows })) c.in-Some.ensures.some
    (subst (λ k. Joins v c.in-Some.keeper k (record v { stores = rows })) c.in-Some-keeper_at.ensures.some
    (record {
      store = c.in-Some.ensures.there.0;
      there = own c;
      held = c.in-Some-keeper_at.ensures.there.0;
      at_other = others c;
      joined = r;
      join = (joined_there c).1;
      rest = ap (λ stores. let w : WorldView = record v { stores = stores } in w) (back c);
    })))
