use Rattle.std.proofs.Common.{◌≡◌, ◌≢◌, List, [], ◌∷◌, ◌++◌, Option, None, refl, sym, ap, subst, ◌∙◌}
use Rattle.std.specs.Prelude.{All}
use Rattle.fragment_codec.specs.declared.frame.Frame.{Frame}
use Rattle.fragment_codec.specs.declared.frame.Frame.TheVariants.{Opening}
use Rattle.fragment_codec.specs.Rules.{OpeningParts}
use Rattle.primary.specs.declared.granted.Primary.{Primary}
use Rattle.log_join.specs.Stores.{StoreView}
use Rattle.failover_world.specs.Worlds.{WorldView, store_at}
use Rattle.failover_world.specs.Happenings.{GoesLiveFrom, Grants}
use Rattle.failover_world.specs.machinery.Tied.{IsWorld}
use Rattle.failover_world.proofs.Granting.{granted_world}
use Rattle.failover_world.proofs.Reviving.{world_with, is_granted, new_world}
use Rattle.failover_world.proofs.world.World.grant.Goals as goal

pub invariant_of-self-2 : goal.invariant_of-self-2
invariant_of-self-2 c =
    let v : WorldView = record {
      image = c.self.inside.image;
      keepers = c.self.inside.keepers;
      need = c.self.inside.need;
      primary = c.self.inside.primary;
      runs = c.self.inside.runs;
      stopped = c.self.inside.stopped.items;
      sent = c.self.inside.sent.items;
      stores = c.self.inside.stores.items;
      gate = c.self.inside.gate;
      released = c.self.inside.released.items;
    } in
    let p = c.in_ok-primary.primary in
    let g = c.in_ok-primary.gate in
    let goes : GoesLiveFrom v c.args.term c.args.keepers.now p g =
    subst (λ (w : WorldView). GoesLiveFrom w c.args.term c.args.keepers.now p g) (sym c.self.view_is) c.in_ok-primary.ensures.goes in
    let now : world_with v g c.replace-before.new.dest c.push_reserved-2.new.self.items c.push_reserved.new.self.items ≡ granted_world v p g =
    is_granted v g p c.replace-before.new.dest c.push_reserved-2.new.self.items c.push_reserved.new.self.items c.replace-before.ensures.after
    (c.push_reserved-2.ensures.items ∙ ap (λ before. c.make_room.new.stopped.items ++ before ∷ []) c.replace-before.ensures.value
    ∙ ap (λ (before : List Primary). before ++ c.self.inside.primary ∷ []) c.make_room.ensures.stopped)
    (c.push_reserved.ensures.items ∙ ap (λ (o : OpeningParts). c.make_room.new.sent.items ++ Opening o ∷ []) c.copy.ensures
    ∙ ap (λ (before : List Frame). before ++ Opening p.opening ∷ []) c.make_room.ensures.sent) in
    subst IsWorld (sym now) (new_world v c.args.term c.args.keepers.now p g c.self.invariant c.if-self.false goes)

pub returns-clause-happens : goal.returns-clause-happens
returns-clause-happens c =
    let v : WorldView = record {
      image = c.self.inside.image;
      keepers = c.self.inside.keepers;
      need = c.self.inside.need;
      primary = c.self.inside.primary;
      runs = c.self.inside.runs;
      stopped = c.self.inside.stopped.items;
      sent = c.self.inside.sent.items;
      stores = c.self.inside.stores.items;
      gate = c.self.inside.gate;
      released = c.self.inside.released.items;
    } in
    let p = c.in_ok-primary.primary in
    let g = c.in_ok-primary.gate in
    let goes : GoesLiveFrom v c.args.term c.args.keepers.now p g =
    subst (λ (w : WorldView). GoesLiveFrom w c.args.term c.args.keepers.now p g) (sym c.self.view_is) c.in_ok-primary.ensures.goes in
    let now : world_with v g c.replace-before.new.dest c.push_reserved-2.new.self.items c.push_reserved.new.self.items ≡ granted_world v p g =
    is_granted v g p c.replace-before.new.dest c.push_reserved-2.new.self.items c.push_reserved.new.self.items c.replace-before.ensures.after
    (c.push_reserved-2.ensures.items ∙ ap (λ before. c.make_room.new.stopped.items ++ before ∷ []) c.replace-before.ensures.value
    ∙ ap (λ (before : List Primary). before ++ c.self.inside.primary ∷ []) c.make_room.ensures.stopped)
    (c.push_reserved.ensures.items ∙ ap (λ (o : OpeningParts). c.make_room.new.sent.items ++ Opening o ∷ []) c.copy.ensures
    ∙ ap (λ (before : List Frame). before ++ Opening p.opening ∷ []) c.make_room.ensures.sent) in
    let there : All (λ keeper. store_at v.stores keeper ≢ None) c.args.keepers.now =
    subst (λ (stores : List (Option StoreView)). All (λ keeper. store_at stores keeper ≢ None) c.args.keepers.now) c.deref.ensures.value
    (c.if-not-are_there.ensures.all refl) in
    subst (λ (w : WorldView). Grants c.args.self.now c.args.term c.args.keepers.now w) (sym now)
    (subst (λ (w : WorldView). Grants w c.args.term c.args.keepers.now (granted_world v p g)) c.self.view_is
    (record { quiet = c.if-self.false; there = there; live = goes; rest = refl }))
