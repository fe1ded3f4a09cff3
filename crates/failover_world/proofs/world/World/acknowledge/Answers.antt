use Rattle.std.proofs.Common.{◌≡◌, ◌≢◌, ℕ, ◌<◌, slice_set, Some, refl, sym, ap, subst, ◌∙◌, arith}
use Rattle.log_join.specs.Stores.{StoreView}
use Rattle.failover_world.specs.Worlds.{WorldView, store_at}
use Rattle.failover_world.proofs.Parts.{with_gate}
use Rattle.failover_world.proofs.Keeping.{acknowledged}
use Rattle.failover_world.proofs.Guests.{store_guest}
use Rattle.std.proofs.Common.{Result, Ok, Err, OnOk, OnErr, IfErr, length, length-set}
use Rattle.ft_types.specs.Counts.{count_at}
use Rattle.ft_types.specs.Guests.{GuestParts}
use Rattle.closed_cut.specs.Position.{IsPosition}
use Rattle.ft_types.specs.declared.position.Position.{Position}
use Rattle.ack_core.specs.declared.board.AckFault.{AckFault}
use Rattle.ack_core.specs.declared.board.AckFault.TheVariants.{OtherTerm, Lower}
use Rattle.term_gate.specs.TermGates.{TermGateView, acked_at}
use Rattle.failover_world.specs.Happenings.{Acknowledges}
use Rattle.failover_world.specs.Refusals.{CannotAcknowledge}
use Rattle.failover_world.specs.machinery.Tied.{IsWorld}
use Rattle.failover_world.proofs.Places.{is_below}
use Rattle.std.proofs.Common.{◌↔◌, inl, inr}
use Rattle.guest_image.specs.Image.{guest_of}
use Rattle.interleaving.proofs.Put.{same_or_not}
use Rattle.log_join.specs.Stores.{nothing}
use Rattle.failover_world.proofs.Stopping.{never_lower}
use Rattle.scripts.specs.declared.event.Event.TheVariants as on
use Rattle.failover_world.specs.Refusals.{Refuses}
use Rattle.failover_world.specs.machinery.Tied.{quorum_of, theory_world}
use Rattle.failover_world.proofs.Places.{there_too}
use Rattle.failover_world.proofs.world.World.acknowledge.Goals.{in-Ok, in-Err}
use Rattle.failover_world.proofs.world.World.acknowledge.Goals as goal

pub acknowledge-requires-clause-harts : goal.acknowledge-requires-clause-harts
acknowledge-requires-clause-harts c =
    let v : WorldView = record {
      image = c.self.inside.image;
      keepers = c.self.inside.keepers;
      need = c.self.inside.need;
      primary = c.self.inside.primary;
      runs = c.self.inside.runs;
      stopped = c.self.inside.stopped.items;
      sent = c.self.inside.sent.items;
      stores = c.self.inside.stores.items;
      gate = c.self.inside.gate;
      released = c.self.inside.released.items;
    } in
    let at : store_at v.stores c.args.keeper ≡ Some c.in-Some.store.now =
    ap (λ stores. store_at stores c.args.keeper) (sym c.deref.ensures.value) ∙ c.in-Some.ensures.some in
    let own = store_guest v c.self.invariant.tied c.self.invariant.parts.guest c.args.keeper c.in-Some.store.now at in
    let same = ap (λ (g : GuestParts). g.harts) own in
    c.position.ensures.harts ∙ same ∙ sym c.self.invariant.parts.gate_harts

acked_world : (v : WorldView) (is : IsWorld v) (keeper : ℕ) (s : StoreView) (p : Position) (gate : TermGateView) (r : Result Unit AckFault) →
    store_at v.stores keeper ≡ Some s → IsPosition s p → OnOk r (gate ≡ record v.gate { acked = slice_set v.gate.acked keeper p.counts }) →
    OnOk r (p.term ≡ v.gate.gate.term) → OnErr r (gate ≡ v.gate) → IsWorld (record v { gate = gate })
acked_world v is keeper s p gate (Ok x) there is_position acked term kept =
    let few = is_below v.stores keeper s there in
    let stores = is.parts.stores in
    let rows = is.parts.acked in
    subst (λ (g : TermGateView). IsWorld (record v { gate = g })) (sym acked)
    (record {
      parts = with_gate v is.parts (record v.gate { acked = slice_set v.gate.acked keeper p.counts }) refl refl refl refl
          (length-set v.gate.acked keeper p.counts) is.parts.offered;
      tied = acknowledged v is.tied keeper s there p is_position (term ∙ is.parts.gate_term) (omega (arith, few, stores, rows));
    })
acked_world v is keeper s p gate (Err e) there is_position acked term kept = subst (λ (g : TermGateView). IsWorld (record v { gate = g })) (sym kept) is

pub invariant_of-self : goal.invariant_of-self
invariant_of-self c =
    let v : WorldView = record {
      image = c.self.inside.image;
      keepers = c.self.inside.keepers;
      need = c.self.inside.need;
      primary = c.self.inside.primary;
      runs = c.self.inside.runs;
      stopped = c.self.inside.stopped.items;
      sent = c.self.inside.sent.items;
      stores = c.self.inside.stores.items;
      gate = c.self.inside.gate;
      released = c.self.inside.released.items;
    } in
    let there : store_at v.stores c.in-Some-keeper_at.keeper ≡ Some c.in-Some.store.now =
    ap (store_at v.stores) c.in-Some-keeper_at.ensures.some
    ∙ ap (λ stores. store_at stores c.args.keeper) (sym c.deref.ensures.value)
    ∙ c.in-Some.ensures.some in
    acked_world v c.self.invariant c.in-Some-keeper_at.keeper c.in-Some.store.now c.position.result.now c.acknowledge.new.self c.acknowledge.result there
    c.position.ensures.position c.acknowledge.ensures.acked c.acknowledge.ensures.term c.acknowledge.ensures.kept

-- the keeper's store
there : (c : goal.Joined-acknowledge) → store_at c.self.inside.stores.items c.args.keeper ≡ Some c.in-Some.store.now
there c = ap (λ stores. store_at stores c.args.keeper) (sym c.deref.ensures.value) ∙ c.in-Some.ensures.some

-- its position has a count for each hart
harts : (c : goal.Joined-acknowledge) → length c.position.result.now.counts ≡ c.self.inside.image.harts
harts c =
    let v : WorldView = record {
      image = c.self.inside.image;
      keepers = c.self.inside.keepers;
      need = c.self.inside.need;
      primary = c.self.inside.primary;
      runs = c.self.inside.runs;
      stopped = c.self.inside.stopped.items;
      sent = c.self.inside.sent.items;
      stores = c.self.inside.stores.items;
      gate = c.self.inside.gate;
      released = c.self.inside.released.items;
    } in
    c.position.ensures.harts
    ∙ ap (λ (g : GuestParts). g.harts) (store_guest v c.self.invariant.tied c.self.invariant.parts.guest c.args.keeper c.in-Some.store.now (there c))

-- one of a term is never lower
cause : (v : WorldView) (is : IsWorld v) (keeper : ℕ) (s : StoreView) (p : Position) (fault : AckFault) (r : Result Unit AckFault) → r ≡ Err fault →
    store_at v.stores keeper ≡ Some s → IsPosition s p → ((r ≡ Err OtherTerm) ↔ (p.term ≢ v.gate.gate.term)) →
    (fault ≡ Lower → (hart : ℕ) × (count_at p.counts hart < acked_at v.gate keeper hart)) → CannotAcknowledge v keeper fault
cause v is keeper s p OtherTerm r at there is_position other lower =
    record {
      store = s;
      there = there;
      position = p;
      is_position = is_position;
      cause = refl;
      other_term = λ e. other.0 at (e ∙ sym is.parts.gate_term);
    }
cause v is keeper s p Lower r at there is_position other lower =
    elim (same_or_not p.term v.gate.gate.term) [
      | inl same ↦
          let (hart, less) = lower refl in
          let t = is.tied in
          let more = never_lower t.is_recorder.recorder (guest_of v.image) (quorum_of v) t.comes keeper s p
          (there_too v.stores keeper s (Some (nothing (guest_of v.image))) there) is_position hart in
          absurd (omega (arith, less, more))
      | inr ne ↦ let both = sym at ∙ other.1 ne in absurd cc
    ]

pub returns-clause-happens : goal.returns-clause-happens
returns-clause-happens c =
    let v : WorldView = record {
      image = c.self.inside.image;
      keepers = c.self.inside.keepers;
      need = c.self.inside.need;
      primary = c.self.inside.primary;
      runs = c.self.inside.runs;
      stopped = c.self.inside.stopped.items;
      sent = c.self.inside.sent.items;
      stores = c.self.inside.stores.items;
      gate = c.self.inside.gate;
      released = c.self.inside.released.items;
    } in
    elim c.match-acknowledge.branch [
      | in-Ok w ↦
          subst (λ r. OnOk r (Acknowledges c.args.self.now c.args.keeper (record v { gate = c.acknowledge.new.self }))) (sym w.result-is)
          (subst (λ x. Acknowledges x c.args.keeper (record v { gate = c.acknowledge.new.self })) c.self.view_is
          (record {
            store = c.in-Some.store.now;
            there = there c;
            position = c.position.result.now;
            is_position = c.position.ensures.position;
            harts = harts c;
            term = w.in-Ok.ensures.term ∙ c.self.invariant.parts.gate_term;
            rest = ap (λ (g : TermGateView). let x : WorldView = record v { gate = g } in x)
                (w.in-Ok.ensures.acked ∙ ap (λ k. let g : TermGateView = record v.gate { acked = slice_set v.gate.acked k c.position.result.now.counts } in g)
                c.in-Some-keeper_at.ensures.some);
          }))
      | in-Err w ↦
          subst (λ r. OnOk r (Acknowledges c.args.self.now c.args.keeper (record v { gate = c.acknowledge.new.self }))) (sym w.result-is) tt
    ]

pub returns-clause-refused : goal.returns-clause-refused
returns-clause-refused c =
    let v : WorldView = record {
      image = c.self.inside.image;
      keepers = c.self.inside.keepers;
      need = c.self.inside.need;
      primary = c.self.inside.primary;
      runs = c.self.inside.runs;
      stopped = c.self.inside.stopped.items;
      sent = c.self.inside.sent.items;
      stores = c.self.inside.stores.items;
      gate = c.self.inside.gate;
      released = c.self.inside.released.items;
    } in
    elim c.match-acknowledge.branch [
      | in-Ok w ↦ subst (λ r. IfErr r (λ f. Refuses c.args.self.now (on.Acknowledge c.args.keeper) f)) (sym w.result-is) tt
      | in-Err w ↦
          subst (λ r. IfErr r (λ f. Refuses c.args.self.now (on.Acknowledge c.args.keeper) f)) (sym w.result-is)
          (subst (λ x. CannotAcknowledge x c.args.keeper w.in-Err.fault) c.self.view_is
          (cause v c.self.invariant c.args.keeper c.in-Some.store.now c.position.result.now w.in-Err.fault c.acknowledge.result w.in-Err.is (there c)
          c.position.ensures.position c.acknowledge.ensures.other_term
          (λ e. let low = w.in-Err.ensures.lower e in
          (low.0, subst (λ k. count_at c.position.result.now.counts low.0 < acked_at v.gate k low.0) c.in-Some-keeper_at.ensures.some low.2))))
    ]
