use Rattle.std.proofs.Common.{subst}
use Rattle.primary.proofs.Gates.{left_if}
use Rattle.scripts.specs.declared.event.Event.TheVariants as on
use Rattle.failover_world.specs.Worlds.{WorldView}
use Rattle.failover_world.specs.Happenings.{Releases}
use Rattle.failover_world.specs.Refusals.{IsLeft}
use Rattle.failover_world.proofs.Letting.{with_released, let_out, let_none, left, releases}
use Rattle.failover_world.proofs.world.World.release.Goals as goal

pub release-requires : goal.release-requires
release-requires c = c.self.invariant.parts.offered

pub invariant_of-self : goal.invariant_of-self
invariant_of-self c =
    let v : WorldView = record {
      image = c.self.inside.image;
      keepers = c.self.inside.keepers;
      need = c.self.inside.need;
      primary = c.self.inside.primary;
      runs = c.self.inside.runs;
      stopped = c.self.inside.stopped.items;
      sent = c.self.inside.sent.items;
      stores = c.self.inside.stores.items;
      gate = c.self.inside.gate;
      released = c.self.inside.released.items;
    } in
    let p = c.release.new.self in
    let g = c.release.new.gate in
    let rs = c.release.new.released.items in
    let made = c.in_err-release.ensures in
    let_none v p g rs c.release.ensures.rest made.none made.was made.room made.book c.self.invariant c.if-not-self.false c.release.ensures.before
    c.release.ensures.primary c.release.ensures.offered

pub returns-in_err-release-clause-left : goal.returns-in_err-release-clause-left
returns-in_err-release-clause-left c =
    let v : WorldView = record {
      image = c.self.inside.image;
      keepers = c.self.inside.keepers;
      need = c.self.inside.need;
      primary = c.self.inside.primary;
      runs = c.self.inside.runs;
      stopped = c.self.inside.stopped.items;
      sent = c.self.inside.sent.items;
      stores = c.self.inside.stores.items;
      gate = c.self.inside.gate;
      released = c.self.inside.released.items;
    } in
    let p = c.release.new.self in
    let g = c.release.new.gate in
    let rs = c.release.new.released.items in
    let made = c.in_err-release.ensures in
    left_if c.from_residual.result (IsLeft c.args.self.now on.Release (with_released v p g rs c.release.ensures.rest))
    (subst (λ x. IsLeft x on.Release (with_released v p g rs c.release.ensures.rest)) c.self.view_is
    (left v p g rs c.release.ensures.rest made.none made.was made.room made.book))

pub invariant_of-self-2 : goal.invariant_of-self-2
invariant_of-self-2 c =
    let v : WorldView = record {
      image = c.self.inside.image;
      keepers = c.self.inside.keepers;
      need = c.self.inside.need;
      primary = c.self.inside.primary;
      runs = c.self.inside.runs;
      stopped = c.self.inside.stopped.items;
      sent = c.self.inside.sent.items;
      stores = c.self.inside.stores.items;
      gate = c.self.inside.gate;
      released = c.self.inside.released.items;
    } in
    let p = c.release.new.self in
    let g = c.release.new.gate in
    let rs = c.release.new.released.items in
    let (goes, notes) = c.in_ok-release.ensures.goes in
    let_out v p g rs c.release.ensures.rest c.self.invariant c.if-not-self.false goes notes c.release.ensures.before c.release.ensures.primary

pub returns-clause-happens : goal.returns-clause-happens
returns-clause-happens c =
    let v : WorldView = record {
      image = c.self.inside.image;
      keepers = c.self.inside.keepers;
      need = c.self.inside.need;
      primary = c.self.inside.primary;
      runs = c.self.inside.runs;
      stopped = c.self.inside.stopped.items;
      sent = c.self.inside.sent.items;
      stores = c.self.inside.stores.items;
      gate = c.self.inside.gate;
      released = c.self.inside.released.items;
    } in
    let p = c.release.new.self in
    let g = c.release.new.gate in
    let rs = c.release.new.released.items in
    let (goes, notes) = c.in_ok-release.ensures.goes in
    subst (λ x. Releases x (with_released v p g rs c.release.ensures.rest)) c.self.view_is
    (releases v p g rs c.release.ensures.rest c.self.invariant c.if-not-self.false goes notes)
