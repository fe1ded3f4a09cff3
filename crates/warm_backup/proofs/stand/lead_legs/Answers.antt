use Rattle.std.proofs.Common.{◌≡◌, ◌==◌, Bool, true, false, ◌<◌, ◌+◌, ◌-◌, List, [], ◌∷◌, ◌++◌, length, take, sym, ap, ◌∙◌, arith}
use Rattle.std.proofs.lemmas.Result.{err_from_is_err_and}
use Rattle.hart_replay.specs.declared.plans.PlannedLeg.{PlannedLeg}
use Rattle.hart_replay.proofs.Along.{fails_there}
use Rattle.warm_backup.proofs.Beginnings.{outcome, parts}
use Rattle.warm_backup.proofs.stand.lead_legs.Goals as goal

-- legs that are not none
some_legs : (legs : List PlannedLeg) (none : Bool) → none ≡ (length legs == 0) → none ≡ false → 0 < length legs
some_legs [] none is falls = let e : true ≡ false = sym is ∙ falls in cc
some_legs (leg ∷ legs) none is falls = omega arith

pub returns-in_err-led-clause-fault : goal.returns-in_err-led-clause-fault
returns-in_err-led-clause-fault c =
    let image = c.args.image.now in
    let legs = c.args.legs.now in
    let p = err_from_is_err_and c.from_residual-in_err-led.result c.from_residual-in_err-led.ensures.1 in
    let some = some_legs legs c.is_empty.result c.is_empty.ensures c.if-is_empty.false in
    rw (p.1, p.2)
    (fails_there image legs c.requires.plan (length legs - 1) c.in_ok-machine.machine c.in_ok-machine.ensures.ok c.index-legs-last.result
    (omega (arith, some)) c.index-legs-last.is c.in_err-led.field-0.0 c.in_err-led.ensures.fault)

pub returns-clause-led : goal.returns-clause-led
returns-clause-led c =
    let image = c.args.image.now in
    let legs = c.args.legs.now in
    let leg = c.index-legs-last.result in
    let some = some_legs legs c.is_empty.result c.is_empty.ensures c.if-is_empty.false in
    let all : length legs - 1 + 1 ≡ length legs = omega (arith, some) in
    let made = c.in_ok-led.ensures in (
      take (length legs - 1) legs,
      parts image legs c.requires.plan (length legs - 1) all leg c.index-legs-last.is ∙
          ap (λ (x : PlannedLeg). take (length legs - 1) legs ++ x ∷ []) (sym made.leg),
      outcome image legs c.requires.plan (length legs - 1) all leg c.index-legs-last.is c.in_ok-machine.machine c.in_ok-machine.ensures.ok
          c.in_ok-led.field-0.book.machine made.led,
      made.fresh,
    )
