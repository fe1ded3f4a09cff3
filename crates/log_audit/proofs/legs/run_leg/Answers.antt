use Rattle.std.proofs.Common.{Option, IfNone, subst, sym}
use Rattle.log_audit.specs.declared.harts.Clash.{Clash}
use Rattle.log_audit.specs.machinery.Covered.{HartsView, IsOn}
use Rattle.log_audit.specs.machinery.Turns.{HasStopped}
use Rattle.log_audit.proofs.Beginning.{begun_on}
use Rattle.log_audit.proofs.Rounds.{stops}
use Rattle.log_audit.proofs.legs.run_leg.Goals as goal

pub go_on-requires-clause-on : goal.go_on-requires-clause-on
go_on-requires-clause-on c =
    subst (λ (v : HartsView). IsOn c.args.leg.now v) (sym c.in_ok-harts.ensures)
    (begun_on c.args.leg.now c.args.start c.requires.leg c.requires.base c.requires.rules.own)

pub returns-in_ok-end-in-None : goal.returns-in_ok-end-in-None
returns-in_ok-end-in-None c =
    stops c.args.leg.now c.many-many.result c.args.start c.in_ok-end-in-None.field-0 c.in_ok-harts.harts c.go_on.new.harts c.in_ok-harts.ensures
    c.many-many.ensures
    (subst (λ (o : Option Clash). IfNone o (HasStopped c.args.leg.now c.many-many.result c.in_ok-harts.harts c.go_on.new.harts)) c.in-None.is
    c.in_ok-clash.ensures.stopped)
    c.in_ok-end-in-None.ensures
