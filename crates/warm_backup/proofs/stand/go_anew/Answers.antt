use Rattle.std.proofs.Common.{List, sym, subst}
use Rattle.ft_types.specs.Guests.{GuestParts}
use Rattle.hart_replay.specs.declared.plans.PlannedLeg.{PlannedLeg}
use Rattle.hart_replay.specs.Laws.{ArePlanned}
use Rattle.hart_replay.specs.Plans.{IsPlan}
use Rattle.warm_backup.specs.declared.stand.Stand.{Stand}
use Rattle.warm_backup.specs.machinery.Working.{IsLedTo}
use Rattle.warm_backup.proofs.Anew.{advanced_anew}
use Rattle.warm_backup.proofs.stand.go_anew.Goals as goal
use Rattle.warm_backup.proofs.stand.go_anew.Goals.{then-on+in_ok-led, else-on+in_ok-led-2}

pub returns : goal.returns
returns c =
    let image = c.args.image.now in
    let store = c.args.store.now in
    let end = c.args.end.now in
    let legs = c.legs-legs.result.now in
    let same = c.legs-legs.ensures.legs in
    let planned = subst (λ (xs : List PlannedLeg). ArePlanned store end xs) (sym same) c.in_ok-plan.ensures.planned in
    let plan =
    subst (λ (xs : List PlannedLeg). IsPlan store.guest xs) (sym same)
    (subst (λ (g : GuestParts). IsPlan g c.in_ok-plan.plan.legs) c.in_ok-plan.ensures.guest c.legs-legs.ensures.rules) in
    let led : IsLedTo image legs c.if-on.led =
    elim c.if-on.branch [
      | then-on+in_ok-led w ↦ subst (λ (s : Stand). IsLedTo image legs s) (sym w.led-is) w.in_ok-led.ensures.led
      | else-on+in_ok-led-2 w ↦ subst (λ (s : Stand). IsLedTo image legs s) (sym w.led-is) w.in_ok-led-2.ensures.led
    ] in
    rw c.in_ok-front.ensures
    (advanced_anew image store c.requires.rules end c.requires.harts c.requires.kept.guest legs planned plan c.args.position.now c.args.front.now.items
    c.args.stand.now c.if-on.led led c.begins-on.result c.steps_to.result (rw c.as_slice.ensures.value at c.begins-on.ensures) c.steps_to.ensures.on
    c.steps_to.ensures.anew)
