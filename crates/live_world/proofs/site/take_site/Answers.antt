use Rattle.std.proofs.Common.{◌≤◌, length, refl, arith}
use Rattle.live_world.proofs.AtPlaces.{none_past}
use Rattle.live_world.proofs.site.take_site.Goals as goal

pub returns-then-index-len-clause-none : goal.returns-then-index-len-clause-none
returns-then-index-len-clause-none c =
    let past : length c.args.sites.now.items ≤ c.args.keeper = omega (arith, c.index.ensures.value, c.args.sites.now.ok.0) in
    (none_past c.args.sites.now.items c.args.keeper past, refl)
