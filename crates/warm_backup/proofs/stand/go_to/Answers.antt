use Rattle.std.proofs.Common.{◌≢◌, refl}
use Rattle.std.proofs.lemmas.Result.{err_from_is_err_and}
use Rattle.ft_types.specs.declared.position.Position.{Position}
use Rattle.warm_backup.specs.declared.stand.Stand.{Stand}
use Rattle.warm_backup.specs.declared.stand.Stand.TheVariants.{Boot, Led}
use Rattle.warm_backup.specs.declared.work.Work.{Work}
use Rattle.warm_backup.specs.machinery.Working.{MayGrowTo}
use Rattle.warm_backup.proofs.Advanced.{at, has_advanced, has_stood, next}
use Rattle.warm_backup.proofs.stand.go_to.Goals as goal

-- where the last leg may grow there is one
some_leg : (stand : Stand) (p : Position) → MayGrowTo stand p → ((w : Work) → stand ≢ Led w) → ⊥
some_leg (Boot m) p may none = may
some_leg (Led w) p may none = none w refl

pub go_on-requires-clause-at : goal.go_on-requires-clause-at
go_on-requires-clause-at c =
    at c.args.image.now c.args.store.now c.guest-rules.ensures.rules c.args.front.now.items c.in-Led.work c.args.position.now c.args.end.now
    (rw c.in-Led.is at c.requires.kept) c.requires.end c.requires.harts (rw c.in-Led.is at (c.may_go_on.ensures c.if-not-may_go_on.false))

pub go_on-requires-clause-to : goal.go_on-requires-clause-to
go_on-requires-clause-to c =
    next c.args.image.now c.args.store.now c.guest-rules.ensures.rules c.args.front.now.items c.in-Led.work c.args.position.now c.args.end.now
    (rw c.in-Led.is at c.requires.kept) c.requires.end c.requires.harts (rw c.in-Led.is at (c.may_go_on.ensures c.if-not-may_go_on.false))

pub returns-in_err-go_on : goal.returns-in_err-go_on
returns-in_err-go_on c =
    let p = err_from_is_err_and c.from_residual.result c.from_residual.ensures.1 in
    rw (p.1, p.2, c.in-Led.is)
    (has_stood c.args.image.now c.args.store.now c.guest-rules.ensures.rules c.args.front.now.items c.in-Led.work c.args.position.now c.args.end.now
    (rw c.in-Led.is at c.requires.kept) c.requires.end c.requires.harts (rw c.in-Led.is at (c.may_go_on.ensures c.if-not-may_go_on.false)) c.go_on.new.self
    c.in_err-go_on.ensures.machine c.in_err-go_on.ensures.cut c.in_err-go_on.ensures.anew c.in_err-go_on.field-0.0 c.in_err-go_on.ensures.fault)

pub returns-in_default : goal.returns-in_default
returns-in_default c =
    absurd (some_leg c.args.stand.now c.args.end.now (c.may_go_on.ensures c.if-not-may_go_on.false) c.in_default.not-Led)

pub returns : goal.returns
returns c =
    rw (c.in-Led.is, c.steps_to.ensures.on refl)
    (has_advanced c.args.image.now c.args.store.now c.guest-rules.ensures.rules c.args.front.now.items c.in-Led.work c.args.position.now c.args.end.now
    (rw c.in-Led.is at c.requires.kept) c.requires.end c.requires.harts (rw c.in-Led.is at (c.may_go_on.ensures c.if-not-may_go_on.false)) c.go_on.new.self
    c.in_ok-go_on.ensures.gone c.in_ok-go_on.ensures.settled c.in_ok-go_on.ensures.straight)
