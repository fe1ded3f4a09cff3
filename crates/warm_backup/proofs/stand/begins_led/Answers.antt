use Rattle.std.proofs.Common.{◌≡◌, ◌↔◌, ◌<◌, ◌∙◌, ◌∷◌, [], length, IsTrue, arith, get_or, sym}
use Rattle.std.proofs.lemmas.Bool.{ltb-true}
use Rattle.hart_replay.specs.GoingOn.{BeginsLeg, GoOnFrom, IsFront}
use Rattle.warm_backup.specs.machinery.Working.{cut_leg}
use Rattle.warm_backup.proofs.Beginnings.{begins_by_parts}
use Rattle.warm_backup.proofs.stand.begins_led.Goals as goal
use Rattle.warm_backup.proofs.stand.begins_led.Goals.{then-many-legs, else-many-legs}

pub returns-then-begin_legs : goal.returns-then-begin_legs
returns-then-begin_legs c =
    elim c.if-many-legs.branch [
      | then-many-legs w ↦
          let within : length c.args.front.now < length c.args.legs.now = search in
          let stand : IsTrue w.begin_legs.result = search in
          let front : IsFront c.args.front.now c.args.legs.now = w.begin_legs.ensures.0 stand in
          let is : c.index-legs-many.result ≡ get_or c.args.legs.now (length c.args.front.now) c.index-legs-many.result = search in
          let parts = begins_by_parts c.args.front.now (cut_leg c.args.work.now c.args.counts.now) c.args.legs.now c.index-legs-many.result within is front in
          let begins : IsTrue c.begins.result ↔ BeginsLeg (cut_leg c.args.work.now c.args.counts.now) c.index-legs-many.result = c.begins.ensures in
          (λ yes. parts.0 (begins.0 yes), λ on. begins.1 (parts.1 on))
      | else-many-legs w ↦
          let lt = ltb-true (length c.args.front.now) (length c.args.legs.now) (sym w.value-is ∙ c.if-begin_legs.true) in
          let no = w.if-many-legs.false in
          absurd (omega (arith, lt, no))
    ]
