use Rattle.std.proofs.Common.{length, le_refl}
use Rattle.std.proofs.lemmas.Result.{IfOk-weaker}
use Rattle.hart_replay.specs.Replays.{IsOutcome}
use Rattle.hart_replay.specs.machinery.Going.{IsAt}
use Rattle.hart_replay.proofs.Along.{all_led}
use Rattle.hart_replay.proofs.going.lead_all.Goals as goal

pub returns-clause-ok : goal.returns-clause-ok
returns-clause-ok c =
    let image = c.args.image.now in
    let legs = c.args.legs.now in
    IfOk-weaker c.lead_through.result (λ m. IsAt image legs (length legs) m) (λ m. IsOutcome image legs m)
    (λ m at. all_led image legs c.requires.plan (length legs) m (le_refl (length legs)) at) c.lead_through.ensures.ok
