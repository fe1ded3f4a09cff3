use Rattle.std.proofs.Common.{◌≡◌, [], None, refl, subst}
use Rattle.live_world.specs.declared.event.KeeperEvent.TheVariants as on
use Rattle.live_world.specs.declared.site.Site.{Site}
use Rattle.live_world.specs.Happenings.{KeeperHappens}
use Rattle.live_world.specs.Views.{GoesTo, LiveView}
use Rattle.live_world.proofs.AtSites.{moved}
use Rattle.live_world.proofs.SiteCalls.{end_leads, goes_plain}
use Rattle.live_world.proofs.SiteEvents.{end_happens, nothing_goes, shown, swapped}
use Rattle.live_world.proofs.parts.LiveParts.end_keeper.Goals as goal

pub returns-in_default-clause-goes : goal.returns-in_default-clause-goes
returns-in_default-clause-goes c =
    let v : LiveView = shown c.self.inside in
    let u : LiveView = record v { sites = c.take_site.new.sites.items } in
    subst (λ (z : LiveView). GoesTo z u) c.self.view_is (nothing_goes v c.take_site.new.sites.items v.said v.handed c.in_default.ensures.none.1 refl refl)

pub returns : goal.returns
returns c =
    let v : LiveView = shown c.self.inside in
    let s : Site = c.in-Some.site in
    let t : Site = record s { station = None } in
    let u : LiveView = record v { sites = c.put_site.new.sites.items } in
    let same : u ≡ moved v c.args.keeper t [] [] =
    swapped v c.args.keeper t c.take_site.new.sites.items c.put_site.new.sites.items c.in-Some.ensures.some.1 c.put_site.ensures in
    record {
      happens = subst (λ (z : LiveView). KeeperHappens z (on.KeeperEnds c.args.keeper) u) c.self.view_is
          (end_happens v c.args.keeper s c.in-Some.ensures.some.0 t u refl same);
      refused = tt;
      left = tt;
      goes = subst (λ (z : LiveView). GoesTo z u) c.self.view_is
          (goes_plain c.in-Some.ensures.some.0 t t [] u refl (end_leads c.in-Some.ensures.some.0) same);
    }
