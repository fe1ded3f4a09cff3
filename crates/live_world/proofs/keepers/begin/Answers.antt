use Rattle.std.proofs.Common.{refl, sym, subst, ◌∙◌}
use Rattle.stations.specs.Stations.{IsBegun, IsNoKeepers}
use Rattle.live_world.specs.Shelves.{ShelfView}
use Rattle.live_world.specs.machinery.Passing.{Tells}
use Rattle.live_world.proofs.Calling.{begins_not, begun, is_away, is_there}
use Rattle.live_world.proofs.keepers.begin.Goals as goal

pub returns-then-is_some-clause-refused : goal.returns-then-is_some-clause-refused
returns-then-is_some-clause-refused c = (is_there c.args.site.now.station (sym c.is_some.ensures ∙ c.if-is_some.true), refl)

pub returns-in-Ok-clause-begun : goal.returns-in-Ok-clause-begun
returns-in-Ok-clause-begun c =
    let mid = c.begin.new.files in
    let station = c.in-Ok.station in
    begun c.args.guest c.args.keeper c.args.site.now c.leave.new.site mid station
    (is_away c.args.site.now.station (sym c.is_some.ensures ∙ c.if-is_some.false))
    (subst (λ (files : ShelfView). IsBegun c.args.guest c.args.keeper (Tells files) (Tells mid) station) c.plan.ensures c.in-Ok.ensures.begun)
    c.leave.ensures

pub returns-in-Err-clause-refused : goal.returns-in-Err-clause-refused
returns-in-Err-clause-refused c =
    let mid = c.begin.new.files in
    let why = c.in-Err.fault in
    begins_not c.args.guest c.args.site.now c.leave-in-Err.new.site mid why
    (is_away c.args.site.now.station (sym c.is_some.ensures ∙ c.if-is_some.false))
    (subst (λ (files : ShelfView). IsNoKeepers c.args.guest (Tells files) (Tells mid) why) c.plan.ensures c.in-Err.ensures.fault)
    c.leave-in-Err.ensures
