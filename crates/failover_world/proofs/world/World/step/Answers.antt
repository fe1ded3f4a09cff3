use Rattle.std.proofs.Common.{◌<◌, sym, subst}
use Rattle.std.proofs.lemmas.Result.{err_from_is_err_and}
use Rattle.scripts.specs.declared.event.Event.TheVariants as on
use Rattle.failover_world.specs.Refusals.{Refuses}
use Rattle.failover_world.specs.Worlds.{WorldView}
use Rattle.failover_world.proofs.Lacking.{step_refused}
use Rattle.failover_world.proofs.Stepping.{went_on}
use Rattle.failover_world.proofs.world.World.step.Goals as goal

pub invariant_of-self : goal.invariant_of-self
invariant_of-self c =
    let v : WorldView = record {
      image = c.self.inside.image;
      keepers = c.self.inside.keepers;
      need = c.self.inside.need;
      primary = c.self.inside.primary;
      runs = c.self.inside.runs;
      stopped = c.self.inside.stopped.items;
      sent = c.self.inside.sent.items;
      stores = c.self.inside.stores.items;
      gate = c.self.inside.gate;
      released = c.self.inside.released.items;
    } in
    went_on v c.self.invariant c.if-not-self.false c.step.new.self c.step.ensures.goes_on c.step.ensures.idle c.step.ensures.within c.step.ensures.harts
    c.step.ensures.rest

pub invariant_of-self-2 : goal.invariant_of-self-2
invariant_of-self-2 c =
    let v : WorldView = record {
      image = c.self.inside.image;
      keepers = c.self.inside.keepers;
      need = c.self.inside.need;
      primary = c.self.inside.primary;
      runs = c.self.inside.runs;
      stopped = c.self.inside.stopped.items;
      sent = c.self.inside.sent.items;
      stores = c.self.inside.stores.items;
      gate = c.self.inside.gate;
      released = c.self.inside.released.items;
    } in
    went_on v c.self.invariant c.if-not-self.false c.step.new.self c.step.ensures.goes_on c.step.ensures.idle c.step.ensures.within c.step.ensures.harts
    c.step.ensures.rest

pub returns-in_err-step-clause-refused : goal.returns-in_err-step-clause-refused
returns-in_err-step-clause-refused c =
    let v : WorldView = record {
      image = c.self.inside.image;
      keepers = c.self.inside.keepers;
      need = c.self.inside.need;
      primary = c.self.inside.primary;
      runs = c.self.inside.runs;
      stopped = c.self.inside.stopped.items;
      sent = c.self.inside.sent.items;
      stores = c.self.inside.stores.items;
      gate = c.self.inside.gate;
      released = c.self.inside.released.items;
    } in
    let e = err_from_is_err_and c.from_residual.result c.from_residual.ensures.1 in
    rw (e.1)
    (subst (λ (w : WorldView). Refuses w (on.Step c.args.hart) e.0) c.self.view_is
    (subst (λ f. Refuses v (on.Step c.args.hart) f) (sym e.2)
    (step_refused v c.args.hart c.in_err-step.field-0.0 c.if-not-self.false
    (subst (λ n. c.args.hart < n) (sym c.self.invariant.parts.harts) (subst (λ (w : WorldView). c.args.hart < w.image.harts) (sym c.self.view_is) c.requires.hart))
    c.in_err-step.ensures.refused)))
