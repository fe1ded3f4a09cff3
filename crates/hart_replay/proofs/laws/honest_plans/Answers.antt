use Rattle.std.proofs.Common.{get_or}
use Rattle.log_join.proofs.Families.{opening_known}
use Rattle.hart_replay.proofs.honesty.Legs.{follows}
use Rattle.hart_replay.proofs.honesty.Plans.{finds_start, leads_to_position}
use Rattle.hart_replay.proofs.laws.honest_plans.Goals as goal

pub returns-clause-follow : goal.returns-clause-follow
returns-clause-follow g c system boot history store position legs rules honest planned k d less =
    let leg = get_or legs k d in
    let base = planned.bases k d less in
    let (past, granted, same) = opening_known history store honest.honest leg.term base.opening base.opens in (
      past,
      granted,
      follows system boot history store rules honest leg past granted base (planned.cuts k d less) (planned.edges k d less) (planned.inputs k d less),
    )

pub returns-clause-lead : goal.returns-clause-lead
returns-clause-lead g c system boot history store position legs rules honest planned =
    leads_to_position system boot history store rules honest position legs planned

pub returns-clause-find : goal.returns-clause-find
returns-clause-find g c system boot history store position front leg back m rules honest planned leads =
    finds_start system boot history store rules honest position front leg back planned m leads
