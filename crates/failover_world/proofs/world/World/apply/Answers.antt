use Rattle.std.specs.Global.{Vec}
use Rattle.std.proofs.Common.{ℕ, Result, Ok, Err, IfErr, sym, subst}
use Rattle.scripts.specs.declared.event.Event.TheVariants as on
use Rattle.failover_world.specs.declared.fault.WorldFault.{WorldFault}
use Rattle.failover_world.specs.declared.fault.WorldFault.TheVariants.{NoPrimary, NoKeeper, NoFrame, NotStopped, Step, Live, Ack, Memory}
use Rattle.failover_world.specs.Worlds.{WorldView}
use Rattle.failover_world.specs.Refusals.{Refuses, RefusesGrant}
use Rattle.failover_world.proofs.world.World.apply.Goals as goal

if_err_then : {A E : Type 0} (P Q : E → Type 0) (r : Result A E) → ((e : E) → P e → Q e) → IfErr r P → IfErr r Q
if_err_then P Q (Ok x) f is = tt
if_err_then P Q (Err e) f is = f e is

refuses : (v : WorldView) (term : ℕ) (keepers : Vec ℕ) (f : WorldFault) → RefusesGrant v term keepers.items f → Refuses v (on.Grant term keepers) f
refuses v term keepers NoPrimary is = absurd is
refuses v term keepers NoKeeper is = is
refuses v term keepers NoFrame is = absurd is
refuses v term keepers NotStopped is = (is.0, tt, is.1)
refuses v term keepers (Step fault) is = absurd is
refuses v term keepers (Live fault) is = is
refuses v term keepers (Ack fault) is = absurd is
refuses v term keepers Memory is =
    record { grows = tt; runs = λ no. absurd no; there = is.0; frame = λ no. absurd no; quiet = λ _. is.1; steps = λ fault no. absurd no; lives = is.2 }

pub returns-in-Grant-clause-refused : goal.returns-in-Grant-clause-refused
returns-in-Grant-clause-refused c =
    subst (λ e. IfErr c.grant.result (λ f. Refuses c.args.self.now e f)) (sym c.in-Grant.is)
    (if_err_then (λ f. RefusesGrant c.args.self.now c.in-Grant.term c.in-Grant.keepers.items f)
    (λ f. Refuses c.args.self.now (on.Grant c.in-Grant.term c.in-Grant.keepers) f) c.grant.result
    (refuses c.args.self.now c.in-Grant.term c.in-Grant.keepers)
    (subst (λ ks. IfErr c.grant.result (λ f. RefusesGrant c.args.self.now c.in-Grant.term ks f)) c.deref.ensures.value c.grant.ensures.refused))
