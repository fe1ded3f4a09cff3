use Rattle.std.proofs.Common.{subst}
use Rattle.failover_world.specs.Promises.{IsOfMachine}
use Rattle.failover_world.specs.Worlds.{WorldView}
use Rattle.failover_world.specs.machinery.Tied.{IsWorld}
use Rattle.failover_world.proofs.Promises.{is_one, is_of_machine, is_kept, are_held, are_acked_inside, are_notes_released, none_is_noted}
use Rattle.failover_world.proofs.world.World.released.Goals as goal

pub returns-clause-one : goal.returns-clause-one
returns-clause-one c =
    let is : IsWorld c.args.self.now = subst (λ (v : WorldView). IsWorld v) c.self.view_is c.self.invariant in is_one c.args.self.now is.tied

pub returns-clause-machine : goal.returns-clause-machine
returns-clause-machine c =
    let v : WorldView = record {
      image = c.self.inside.image;
      keepers = c.self.inside.keepers;
      need = c.self.inside.need;
      primary = c.self.inside.primary;
      runs = c.self.inside.runs;
      stopped = c.self.inside.stopped.items;
      sent = c.self.inside.sent.items;
      stores = c.self.inside.stores.items;
      gate = c.self.inside.gate;
      released = c.self.inside.released.items;
    } in
    subst (λ (w : WorldView). IsOfMachine w) c.self.view_is (is_of_machine v c.self.invariant.tied c.machine-machine.ensures.run)

pub returns-clause-kept : goal.returns-clause-kept
returns-clause-kept c =
    let is : IsWorld c.args.self.now = subst (λ (v : WorldView). IsWorld v) c.self.view_is c.self.invariant in
    is_kept c.args.self.now is.tied is.parts.guest

pub returns-clause-held : goal.returns-clause-held
returns-clause-held c =
    let is : IsWorld c.args.self.now = subst (λ (v : WorldView). IsWorld v) c.self.view_is c.self.invariant in
    are_held c.args.self.now is.tied is.parts.guest

pub returns-clause-acknowledged : goal.returns-clause-acknowledged
returns-clause-acknowledged c =
    let is : IsWorld c.args.self.now = subst (λ (v : WorldView). IsWorld v) c.self.view_is c.self.invariant in are_acked_inside c.args.self.now is.tied

pub returns-clause-noted : goal.returns-clause-noted
returns-clause-noted c =
    let is : IsWorld c.args.self.now = subst (λ (v : WorldView). IsWorld v) c.self.view_is c.self.invariant in are_notes_released c.args.self.now is.tied

pub returns-clause-fresh : goal.returns-clause-fresh
returns-clause-fresh c =
    let is : IsWorld c.args.self.now = subst (λ (v : WorldView). IsWorld v) c.self.view_is c.self.invariant in
    none_is_noted c.args.self.now is.tied is.parts.guest
