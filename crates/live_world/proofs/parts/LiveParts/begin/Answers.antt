use Rattle.std.proofs.Common.{◌≡◌, List, [], Option, Some, refl, sym, ap, subst, ◌∙◌, ◌++◌, option_to_list, OnOk, IfErr}
use Rattle.std.proofs.lemmas.List.{append-nil}
use Rattle.std.proofs.lemmas.Result.{err_from_is_err_and}
use Rattle.guest_image.specs.Image.{guest_of}
use Rattle.ft_types.specs.Guests.{GuestParts}
use Rattle.live_world.specs.declared.event.KeeperEvent.TheVariants as on
use Rattle.live_world.specs.declared.fault.EventFault.TheVariants as fault
use Rattle.live_world.specs.declared.fault.EventFault.{EventFault}
use Rattle.live_world.specs.declared.hand.HandedTo.{HandedTo}
use Rattle.live_world.specs.declared.site.Site.{Site}
use Rattle.live_world.specs.Calls.{HandsRead, IsNotHandedOver, BeginsNot, HasBegun}
use Rattle.live_world.specs.Happenings.{KeeperHappens}
use Rattle.live_world.specs.Refusals.{KeeperLeaves, KeeperRefuses}
use Rattle.live_world.specs.Views.{GoesTo, LiveView}
use Rattle.live_world.proofs.AtSites.{moved}
use Rattle.live_world.specs.Sites.{site_at}
use Rattle.live_world.proofs.SiteCalls.{goes_handing, goes_plain, unread}
use Rattle.live_world.proofs.SiteEvents.{all_still, begin_happens, begin_leads, begin_left, begin_not_handed, begin_refused, none_is, nothing_goes, put_same_back, runs_at, shown, swapped_unread}
use Rattle.live_world.proofs.parts.LiveParts.begin.Goals as goal

pub returns-in_err-make_room-clause-goes : goal.returns-in_err-make_room-clause-goes
returns-in_err-make_room-clause-goes c =
    let v : LiveView = shown c.self.inside in
    let u : LiveView = record v { handed = c.make_room.new.items.items } in
    subst (λ (z : LiveView). GoesTo z u) c.self.view_is (nothing_goes v v.sites v.said c.make_room.new.items.items refl refl c.in_err-make_room.ensures.same)

pub returns-in_default-clause-goes : goal.returns-in_default-clause-goes
returns-in_default-clause-goes c =
    let v : LiveView = shown c.self.inside in
    let u : LiveView = record v { sites = c.take_site.new.sites.items; handed = c.make_room.new.items.items } in
    subst (λ (z : LiveView). GoesTo z u) c.self.view_is (nothing_goes v c.take_site.new.sites.items v.said c.make_room.new.items.items c.in_default.ensures.none.1 refl c.in_ok-make_room.ensures.same)

pub returns-then-is_some-clause-refused : goal.returns-then-is_some-clause-refused
returns-then-is_some-clause-refused c =
    let v : LiveView = shown c.self.inside in
    subst (λ (z : LiveView). KeeperRefuses z (on.Begin c.args.keeper c.args.plan) fault.Runs) c.self.view_is
    (runs_at v c.args.keeper c.in-Some.site c.in-Some.ensures.some.0 (sym c.is_some.ensures ∙ c.if-is_some.true))

pub returns-then-is_some-clause-left : goal.returns-then-is_some-clause-left
returns-then-is_some-clause-left c =
    let v : LiveView = shown c.self.inside in
    let s : Site = c.in-Some.site in
    let back : c.put_site.new.sites.items ≡ v.sites =
    put_same_back v c.args.keeper s c.take_site.new.sites.items c.put_site.new.sites.items c.in-Some.ensures.some.0 c.in-Some.ensures.some.1
    c.put_site.ensures in
    let u : LiveView = record v { sites = c.put_site.new.sites.items; handed = c.make_room.new.items.items } in
    subst (λ (z : LiveView). u ≡ z) c.self.view_is
    (all_still v u.sites v.said u.handed back refl c.in_ok-make_room.ensures.same)

pub returns-then-is_some-clause-goes : goal.returns-then-is_some-clause-goes
returns-then-is_some-clause-goes c =
    let v : LiveView = shown c.self.inside in
    let s : Site = c.in-Some.site in
    let back : c.put_site.new.sites.items ≡ v.sites =
    put_same_back v c.args.keeper s c.take_site.new.sites.items c.put_site.new.sites.items c.in-Some.ensures.some.0 c.in-Some.ensures.some.1
    c.put_site.ensures in
    let u : LiveView = record v { sites = c.put_site.new.sites.items; handed = c.make_room.new.items.items } in
    subst (λ (z : LiveView). GoesTo z u) c.self.view_is
    (nothing_goes v u.sites v.said u.handed back refl c.in_ok-make_room.ensures.same)

pub returns-in_err-handed-clause-left : goal.returns-in_err-handed-clause-left
returns-in_err-handed-clause-left c =
    let v : LiveView = shown c.self.inside in
    let s : Site = c.in-Some.site in
    let mid : Site = c.begin-begun.new.site in
    let there : site_at v.sites c.args.keeper ≡ Some s = c.in-Some.ensures.some.0 in
    let begun : OnOk c.begin-begun.result (HasBegun (guest_of v.image) c.args.keeper s mid) =
    subst (λ (g : GuestParts). OnOk c.begin-begun.result (HasBegun g c.args.keeper s mid)) c.guest-guest.ensures c.begin-begun.ensures.begun in
    let not : IfErr c.begin-begun.result (λ f. BeginsNot (guest_of v.image) s f mid) =
    subst (λ (g : GuestParts). IfErr c.begin-begun.result (λ f. BeginsNot g s f mid)) c.guest-guest.ensures c.begin-begun.ensures.refused in
    let fails : IsNotHandedOver (guest_of v.image) mid c.in_err-handed.field-0.0 =
    subst (λ (g : GuestParts). IsNotHandedOver g mid c.in_err-handed.field-0.0) c.guest-guest.ensures c.in_err-handed.ensures.refused in
    let u : LiveView = record v { sites = c.put_site-2.new.sites.items; handed = c.make_room.new.items.items } in
    let same : u ≡ moved v c.args.keeper (unread mid) [] [] =
    swapped_unread v c.args.keeper mid c.handed-handed.new.site [] [] c.take_site.new.sites.items c.put_site-2.new.sites.items
    v.said c.make_room.new.items.items c.in-Some.ensures.some.1 c.put_site-2.ensures c.handed-handed.ensures.rest (sym (append-nil v.said)) (c.in_ok-make_room.ensures.same ∙ sym (append-nil v.handed)) in
    let e = err_from_is_err_and c.from_residual-in_err-handed.result c.from_residual-in_err-handed.ensures.1 in
    rw (e.1)
    (subst (λ (f : EventFault). KeeperLeaves c.args.self.now (on.Begin c.args.keeper c.args.plan) f u) (sym e.2)
    (subst (λ (z : LiveView). KeeperLeaves z (on.Begin c.args.keeper c.args.plan) c.in_err-handed.field-0.0 u) c.self.view_is
    (begin_not_handed v c.args.keeper s there mid c.args.plan c.begin-begun.result begun not c.in_err-handed.field-0.0 u fails same)))

pub returns-in_err-handed-clause-goes : goal.returns-in_err-handed-clause-goes
returns-in_err-handed-clause-goes c =
    let v : LiveView = shown c.self.inside in
    let s : Site = c.in-Some.site in
    let mid : Site = c.begin-begun.new.site in
    let there : site_at v.sites c.args.keeper ≡ Some s = c.in-Some.ensures.some.0 in
    let begun : OnOk c.begin-begun.result (HasBegun (guest_of v.image) c.args.keeper s mid) =
    subst (λ (g : GuestParts). OnOk c.begin-begun.result (HasBegun g c.args.keeper s mid)) c.guest-guest.ensures c.begin-begun.ensures.begun in
    let not : IfErr c.begin-begun.result (λ f. BeginsNot (guest_of v.image) s f mid) =
    subst (λ (g : GuestParts). IfErr c.begin-begun.result (λ f. BeginsNot g s f mid)) c.guest-guest.ensures c.begin-begun.ensures.refused in
    let fails : IsNotHandedOver (guest_of v.image) mid c.in_err-handed.field-0.0 =
    subst (λ (g : GuestParts). IsNotHandedOver g mid c.in_err-handed.field-0.0) c.guest-guest.ensures c.in_err-handed.ensures.refused in
    let u : LiveView = record v { sites = c.put_site-2.new.sites.items; handed = c.make_room.new.items.items } in
    let same : u ≡ moved v c.args.keeper (unread mid) [] [] =
    swapped_unread v c.args.keeper mid c.handed-handed.new.site [] [] c.take_site.new.sites.items c.put_site-2.new.sites.items
    v.said c.make_room.new.items.items c.in-Some.ensures.some.1 c.put_site-2.ensures c.handed-handed.ensures.rest (sym (append-nil v.said)) (c.in_ok-make_room.ensures.same ∙ sym (append-nil v.handed)) in
    subst (λ (z : LiveView). GoesTo z u) c.self.view_is
    (goes_plain there mid (unread mid) [] u refl (begin_leads v c.args.keeper s there mid c.args.plan c.begin-begun.result begun not) same)

pub returns : goal.returns
returns c =
    let v : LiveView = shown c.self.inside in
    let s : Site = c.in-Some.site in
    let mid : Site = c.begin-begun.new.site in
    let there : site_at v.sites c.args.keeper ≡ Some s = c.in-Some.ensures.some.0 in
    let begun : OnOk c.begin-begun.result (HasBegun (guest_of v.image) c.args.keeper s mid) =
    subst (λ (g : GuestParts). OnOk c.begin-begun.result (HasBegun g c.args.keeper s mid)) c.guest-guest.ensures c.begin-begun.ensures.begun in
    let not : IfErr c.begin-begun.result (λ f. BeginsNot (guest_of v.image) s f mid) =
    subst (λ (g : GuestParts). IfErr c.begin-begun.result (λ f. BeginsNot g s f mid)) c.guest-guest.ensures c.begin-begun.ensures.refused in
    let one : Option HandedTo = c.in_ok-handed.field-0 in
    let has : HandsRead (guest_of v.image) c.args.keeper mid one =
    subst (λ (g : GuestParts). HandsRead g c.args.keeper mid one) c.guest-guest.ensures c.in_ok-handed.ensures.handed in
    let hands : c.add_some.new.items.items ≡ v.handed ++ option_to_list one =
    c.add_some.ensures ∙ ap (λ (x : List HandedTo). x ++ option_to_list one) c.in_ok-make_room.ensures.same in
    let u : LiveView = record v { sites = c.put_site-2.new.sites.items; handed = c.add_some.new.items.items } in
    let same : u ≡ moved v c.args.keeper (unread mid) [] (option_to_list one) =
    swapped_unread v c.args.keeper mid c.handed-handed.new.site [] (option_to_list one) c.take_site.new.sites.items c.put_site-2.new.sites.items
    v.said c.add_some.new.items.items c.in-Some.ensures.some.1 c.put_site-2.ensures c.handed-handed.ensures.rest (sym (append-nil v.said)) hands in
    record {
      happens = subst (λ (z : LiveView). OnOk c.begin-begun.result (KeeperHappens z (on.Begin c.args.keeper c.args.plan) u)) c.self.view_is
          (begin_happens v c.args.keeper s there mid c.args.plan c.begin-begun.result begun one u has same);
      refused = subst (λ (z : LiveView). IfErr c.begin-begun.result (KeeperRefuses z (on.Begin c.args.keeper c.args.plan))) c.self.view_is
          (begin_refused v c.args.keeper s there mid c.args.plan c.begin-begun.result not);
      left = subst (λ (z : LiveView). IfErr c.begin-begun.result (λ f. KeeperLeaves z (on.Begin c.args.keeper c.args.plan) f u)) c.self.view_is
          (begin_left v c.args.keeper s there mid c.args.plan c.begin-begun.result (none_is s.station (sym c.is_some.ensures ∙ c.if-is_some.false)) not one u has same);
      goes = subst (λ (z : LiveView). GoesTo z u) c.self.view_is
          (goes_handing there mid [] one u c.in-Some.ensures.named (begin_leads v c.args.keeper s there mid c.args.plan c.begin-begun.result begun not) has same);
    }
