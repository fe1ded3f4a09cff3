use Rattle.std.proofs.Common.{List, Option, refl, ap, subst}
use Rattle.live_world.specs.declared.site.Site.{Site}
use Rattle.live_world.specs.Views.{GoesTo, LiveView}
use Rattle.live_world.proofs.SiteEvents.{lost_goes, nothing_goes, shown}
use Rattle.live_world.proofs.parts.LiveParts.lose.Goals as goal

pub returns-in_default-clause-goes : goal.returns-in_default-clause-goes
returns-in_default-clause-goes c =
    let v : LiveView = shown c.self.inside in
    let u : LiveView = record v { sites = c.take_site.new.sites.items } in
    subst (λ (z : LiveView). GoesTo z u) c.self.view_is (nothing_goes v c.take_site.new.sites.items v.said v.handed c.in_default.ensures.none.1 refl refl)

pub returns-clause-goes : goal.returns-clause-goes
returns-clause-goes c =
    let v : LiveView = shown c.self.inside in
    let u : LiveView = record v { sites = c.take_site.new.sites.items } in
    subst (λ (z : LiveView). GoesTo z u) c.self.view_is
    (lost_goes v c.args.keeper c.in-Some._lost u c.in-Some.ensures.some.0 (ap (λ (x : List (Option Site)). let y : LiveView = record v { sites = x } in y) c.in-Some.ensures.some.1))
