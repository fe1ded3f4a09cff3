use Rattle.std.proofs.Common.{◌≡◌, List, [], refl, subst, ◌-◌, drop, take, OnOk, IfErr}
use Rattle.fragment_codec.specs.declared.frame.Frame.{Frame}
use Rattle.live_world.specs.declared.event.KeeperEvent.TheVariants as on
use Rattle.live_world.specs.declared.site.Site.{Site}
use Rattle.live_world.specs.Calls.{TakesAll, TakesNot}
use Rattle.live_world.specs.Happenings.{KeeperHappens}
use Rattle.live_world.specs.Refusals.{KeeperLeaves, KeeperRefuses}
use Rattle.live_world.specs.Views.{GoesTo, LiveView}
use Rattle.live_world.proofs.AtSites.{moved}
use Rattle.live_world.proofs.Following.{goes_nowhere}
use Rattle.live_world.proofs.SiteCalls.{goes_plain}
use Rattle.live_world.proofs.SiteEvents.{nothing_goes, shown, swapped, take_happens, take_left, take_refused, taken_leads}
use Rattle.live_world.proofs.parts.LiveParts.take.Goals as goal

pub returns-then-from-to-clause-goes : goal.returns-then-from-to-clause-goes
returns-then-from-to-clause-goes c = goes_nowhere refl

pub returns-in_default-clause-goes : goal.returns-in_default-clause-goes
returns-in_default-clause-goes c =
    let v : LiveView = shown c.self.inside in
    let u : LiveView = record v { sites = c.take_site.new.sites.items } in
    subst (λ (z : LiveView). GoesTo z u) c.self.view_is (nothing_goes v c.take_site.new.sites.items v.said v.handed c.in_default.ensures.none.1 refl refl)

pub returns : goal.returns
returns c =
    let v : LiveView = shown c.self.inside in
    let s : Site = c.in-Some.site in
    let t : Site = c.take-taken.new.site in
    let u : LiveView = record v { sites = c.put_site.new.sites.items } in
    let same : u ≡ moved v c.args.keeper t [] [] =
    swapped v c.args.keeper t c.take_site.new.sites.items c.put_site.new.sites.items c.in-Some.ensures.some.1 c.put_site.ensures in
    let not : IfErr c.take-taken.result (λ f. TakesNot (take (c.args.to - c.args.from) (drop c.args.from v.frames)) s f t) =
    subst (λ (fs : List Frame). IfErr c.take-taken.result (λ f. TakesNot (take (c.args.to - c.args.from) (drop c.args.from fs)) s f t)) c.as_slice.ensures.value c.take-taken.ensures.refused in
    let takes : OnOk c.take-taken.result (TakesAll (take (c.args.to - c.args.from) (drop c.args.from v.frames)) s t) =
    subst (λ (fs : List Frame). OnOk c.take-taken.result (TakesAll (take (c.args.to - c.args.from) (drop c.args.from fs)) s t)) c.as_slice.ensures.value c.take-taken.ensures.taken in
    record {
      happens = subst (λ (z : LiveView). OnOk c.take-taken.result (KeeperHappens z (on.Take c.args.keeper c.args.from c.args.to c.args.piece) u)) c.self.view_is
          (take_happens v c.args.keeper s c.in-Some.ensures.some.0 t c.args.from c.args.to c.args.piece c.take-taken.result u takes same);
      refused = subst (λ (z : LiveView). IfErr c.take-taken.result (KeeperRefuses z (on.Take c.args.keeper c.args.from c.args.to c.args.piece))) c.self.view_is
          (take_refused v c.args.keeper s c.in-Some.ensures.some.0 t c.args.from c.args.to c.args.piece c.take-taken.result not);
      left = subst (λ (z : LiveView). IfErr c.take-taken.result (λ f. KeeperLeaves z (on.Take c.args.keeper c.args.from c.args.to c.args.piece) f u)) c.self.view_is
          (take_left v c.args.keeper s c.in-Some.ensures.some.0 t c.args.from c.args.to c.args.piece c.take-taken.result u not same);
      goes = subst (λ (z : LiveView). GoesTo z u) c.self.view_is
          (goes_plain c.in-Some.ensures.some.0 t t [] u refl (taken_leads v c.args.keeper s c.in-Some.ensures.some.0 t c.args.from c.args.to c.args.piece c.take-taken.result takes not) same);
    }
