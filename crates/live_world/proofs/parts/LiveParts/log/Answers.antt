use Rattle.std.proofs.Common.{◌≡◌, List, [], Option, Some, refl, sym, ap, subst, ◌∙◌, ◌++◌, option_to_list, OnOk, IfErr, not}
use Rattle.std.proofs.lemmas.List.{append-nil}
use Rattle.std.proofs.lemmas.Result.{err_from_is_err_and}
use Rattle.guest_image.specs.Image.{guest_of}
use Rattle.ft_types.specs.Guests.{GuestParts}
use Rattle.live_world.specs.declared.event.KeeperEvent.TheVariants as on
use Rattle.live_world.specs.declared.fault.EventFault.{EventFault}
use Rattle.live_world.specs.declared.hand.HandedTo.{HandedTo}
use Rattle.live_world.specs.declared.site.Site.{Site}
use Rattle.live_world.specs.Calls.{HandsRead, IsNotHandedOver}
use Rattle.live_world.specs.Happenings.{KeeperHappens}
use Rattle.live_world.specs.Refusals.{KeeperLeaves, KeeperRefuses}
use Rattle.live_world.specs.Views.{GoesTo, LiveView}
use Rattle.live_world.proofs.AtSites.{moved}
use Rattle.live_world.specs.Sites.{site_at}
use Rattle.wire.specs.declared.acknowledgements.Acknowledgement.{Acknowledgement}
use Rattle.live_world.proofs.SiteCalls.{goes_handing, goes_plain, unread}
use Rattle.live_world.proofs.SiteEvents.{IsParted, all_still, log_happens, log_leads, log_left, log_not_handed, log_refused, nothing_goes, parted_is, put_same_back, shown, some_is, swapped_unread}
use Rattle.live_world.proofs.parts.LiveParts.log.Goals as goal

pub returns-in_err-make_room-clause-goes : goal.returns-in_err-make_room-clause-goes
returns-in_err-make_room-clause-goes c =
    let v : LiveView = shown c.self.inside in
    let u : LiveView = record v { said = c.make_room.new.items.items } in
    subst (λ (z : LiveView). GoesTo z u) c.self.view_is (nothing_goes v v.sites c.make_room.new.items.items v.handed refl c.in_err-make_room.ensures.same refl)

pub returns-in_err-make_room-2-clause-goes : goal.returns-in_err-make_room-2-clause-goes
returns-in_err-make_room-2-clause-goes c =
    let v : LiveView = shown c.self.inside in
    let u : LiveView = record v { said = c.make_room.new.items.items; handed = c.make_room-2.new.items.items } in
    subst (λ (z : LiveView). GoesTo z u) c.self.view_is (nothing_goes v v.sites c.make_room.new.items.items c.make_room-2.new.items.items refl c.in_ok-make_room.ensures.same c.in_err-make_room-2.ensures.same)

pub returns-in_default-clause-goes : goal.returns-in_default-clause-goes
returns-in_default-clause-goes c =
    let v : LiveView = shown c.self.inside in
    let u : LiveView = record v { sites = c.take_site.new.sites.items; said = c.make_room.new.items.items; handed = c.make_room-2.new.items.items } in
    subst (λ (z : LiveView). GoesTo z u) c.self.view_is (nothing_goes v c.take_site.new.sites.items c.make_room.new.items.items c.make_room-2.new.items.items c.in_default.ensures.none.1 c.in_ok-make_room.ensures.same c.in_ok-make_room-2.ensures.same)

pub returns-then-is_none-clause-left : goal.returns-then-is_none-clause-left
returns-then-is_none-clause-left c =
    let v : LiveView = shown c.self.inside in
    let s : Site = c.in-Some.site in
    let back : c.put_site.new.sites.items ≡ v.sites =
    put_same_back v c.args.keeper s c.take_site.new.sites.items c.put_site.new.sites.items c.in-Some.ensures.some.0 c.in-Some.ensures.some.1
    c.put_site.ensures in
    let u : LiveView = record v { sites = c.put_site.new.sites.items; said = c.make_room.new.items.items; handed = c.make_room-2.new.items.items } in
    subst (λ (z : LiveView). u ≡ z) c.self.view_is
    (all_still v u.sites u.said u.handed back c.in_ok-make_room.ensures.same c.in_ok-make_room-2.ensures.same)

pub returns-then-is_none-clause-goes : goal.returns-then-is_none-clause-goes
returns-then-is_none-clause-goes c =
    let v : LiveView = shown c.self.inside in
    let s : Site = c.in-Some.site in
    let back : c.put_site.new.sites.items ≡ v.sites =
    put_same_back v c.args.keeper s c.take_site.new.sites.items c.put_site.new.sites.items c.in-Some.ensures.some.0 c.in-Some.ensures.some.1
    c.put_site.ensures in
    let u : LiveView = record v { sites = c.put_site.new.sites.items; said = c.make_room.new.items.items; handed = c.make_room-2.new.items.items } in
    subst (λ (z : LiveView). GoesTo z u) c.self.view_is
    (nothing_goes v u.sites u.said u.handed back c.in_ok-make_room.ensures.same c.in_ok-make_room-2.ensures.same)

pub returns-in_err-handed-clause-left : goal.returns-in_err-handed-clause-left
returns-in_err-handed-clause-left c =
    let v : LiveView = shown c.self.inside in
    let s : Site = c.in-Some.site in
    let mid : Site = c.log-logged.new.site in
    let there : site_at v.sites c.args.keeper ≡ Some s = c.in-Some.ensures.some.0 in
    let said : Option Acknowledgement = c.parted-said.result.0 in
    let parted : IsParted c.log-logged.result said c.parted-said.result.1 = parted_is c.log-logged.result said c.parted-said.result.1 c.parted-said.ensures in
    let fails : IsNotHandedOver (guest_of v.image) mid c.in_err-handed.field-0.0 =
    subst (λ (g : GuestParts). IsNotHandedOver g mid c.in_err-handed.field-0.0) c.guest-guest.ensures c.in_err-handed.ensures.refused in
    let says : c.add_some.new.items.items ≡ v.said ++ option_to_list said =
    c.add_some.ensures ∙ ap (λ (x : List Acknowledgement). x ++ option_to_list said) c.in_ok-make_room.ensures.same in
    let u : LiveView = record v { sites = c.put_site-2.new.sites.items; said = c.add_some.new.items.items; handed = c.make_room-2.new.items.items } in
    let same : u ≡ moved v c.args.keeper (unread mid) (option_to_list said) [] =
    swapped_unread v c.args.keeper mid c.handed-handed.new.site (option_to_list said) [] c.take_site.new.sites.items c.put_site-2.new.sites.items
    c.add_some.new.items.items c.make_room-2.new.items.items c.in-Some.ensures.some.1 c.put_site-2.ensures c.handed-handed.ensures.rest says (c.in_ok-make_room-2.ensures.same ∙ sym (append-nil v.handed)) in
    let e = err_from_is_err_and c.from_residual-in_err-handed.result c.from_residual-in_err-handed.ensures.1 in
    rw (e.1)
    (subst (λ (f : EventFault). KeeperLeaves c.args.self.now (on.Log c.args.keeper c.args.plan) f u) (sym e.2)
    (subst (λ (z : LiveView). KeeperLeaves z (on.Log c.args.keeper c.args.plan) c.in_err-handed.field-0.0 u) c.self.view_is
    (log_not_handed v c.args.keeper s there mid c.args.plan c.log-logged.result said c.parted-said.result.1 parted c.log-logged.ensures.logged c.log-logged.ensures.refused c.in_err-handed.field-0.0 u fails same)))

pub returns-in_err-handed-clause-goes : goal.returns-in_err-handed-clause-goes
returns-in_err-handed-clause-goes c =
    let v : LiveView = shown c.self.inside in
    let s : Site = c.in-Some.site in
    let mid : Site = c.log-logged.new.site in
    let there : site_at v.sites c.args.keeper ≡ Some s = c.in-Some.ensures.some.0 in
    let said : Option Acknowledgement = c.parted-said.result.0 in
    let parted : IsParted c.log-logged.result said c.parted-said.result.1 = parted_is c.log-logged.result said c.parted-said.result.1 c.parted-said.ensures in
    let fails : IsNotHandedOver (guest_of v.image) mid c.in_err-handed.field-0.0 =
    subst (λ (g : GuestParts). IsNotHandedOver g mid c.in_err-handed.field-0.0) c.guest-guest.ensures c.in_err-handed.ensures.refused in
    let says : c.add_some.new.items.items ≡ v.said ++ option_to_list said =
    c.add_some.ensures ∙ ap (λ (x : List Acknowledgement). x ++ option_to_list said) c.in_ok-make_room.ensures.same in
    let u : LiveView = record v { sites = c.put_site-2.new.sites.items; said = c.add_some.new.items.items; handed = c.make_room-2.new.items.items } in
    let same : u ≡ moved v c.args.keeper (unread mid) (option_to_list said) [] =
    swapped_unread v c.args.keeper mid c.handed-handed.new.site (option_to_list said) [] c.take_site.new.sites.items c.put_site-2.new.sites.items
    c.add_some.new.items.items c.make_room-2.new.items.items c.in-Some.ensures.some.1 c.put_site-2.ensures c.handed-handed.ensures.rest says (c.in_ok-make_room-2.ensures.same ∙ sym (append-nil v.handed)) in
    subst (λ (z : LiveView). GoesTo z u) c.self.view_is
    (goes_plain there mid (unread mid) (option_to_list said) u refl (log_leads v c.args.keeper s there mid c.args.plan c.log-logged.result said c.parted-said.result.1 parted c.log-logged.ensures.logged c.log-logged.ensures.refused) same)

pub returns : goal.returns
returns c =
    let v : LiveView = shown c.self.inside in
    let s : Site = c.in-Some.site in
    let mid : Site = c.log-logged.new.site in
    let there : site_at v.sites c.args.keeper ≡ Some s = c.in-Some.ensures.some.0 in
    let said : Option Acknowledgement = c.parted-said.result.0 in
    let parted : IsParted c.log-logged.result said c.parted-said.result.1 = parted_is c.log-logged.result said c.parted-said.result.1 c.parted-said.ensures in
    let one : Option HandedTo = c.in_ok-handed.field-0 in
    let has : HandsRead (guest_of v.image) c.args.keeper mid one =
    subst (λ (g : GuestParts). HandsRead g c.args.keeper mid one) c.guest-guest.ensures c.in_ok-handed.ensures.handed in
    let hands : c.add_some-2.new.items.items ≡ v.handed ++ option_to_list one =
    c.add_some-2.ensures ∙ ap (λ (x : List HandedTo). x ++ option_to_list one) c.in_ok-make_room-2.ensures.same in
    let says : c.add_some.new.items.items ≡ v.said ++ option_to_list said =
    c.add_some.ensures ∙ ap (λ (x : List Acknowledgement). x ++ option_to_list said) c.in_ok-make_room.ensures.same in
    let u : LiveView = record v { sites = c.put_site-2.new.sites.items; said = c.add_some.new.items.items; handed = c.add_some-2.new.items.items } in
    let same : u ≡ moved v c.args.keeper (unread mid) (option_to_list said) (option_to_list one) =
    swapped_unread v c.args.keeper mid c.handed-handed.new.site (option_to_list said) (option_to_list one) c.take_site.new.sites.items c.put_site-2.new.sites.items
    c.add_some.new.items.items c.add_some-2.new.items.items c.in-Some.ensures.some.1 c.put_site-2.ensures c.handed-handed.ensures.rest says hands in
    record {
      happens = subst (λ (z : LiveView). OnOk c.parted-said.result.1 (KeeperHappens z (on.Log c.args.keeper c.args.plan) u)) c.self.view_is
          (log_happens v c.args.keeper s there mid c.args.plan c.log-logged.result said c.parted-said.result.1 parted c.log-logged.ensures.logged one u has same);
      refused = subst (λ (z : LiveView). IfErr c.parted-said.result.1 (KeeperRefuses z (on.Log c.args.keeper c.args.plan))) c.self.view_is
          (log_refused v c.args.keeper s there mid c.args.plan c.log-logged.result said c.parted-said.result.1 parted c.log-logged.ensures.refused);
      left = subst (λ (z : LiveView). IfErr c.parted-said.result.1 (λ f. KeeperLeaves z (on.Log c.args.keeper c.args.plan) f u)) c.self.view_is
          (log_left v c.args.keeper s there mid c.args.plan c.log-logged.result said c.parted-said.result.1 parted (some_is s.station (c.is_none.ensures ∙ ap not c.if-is_none.false)) c.log-logged.ensures.refused one u has same);
      goes = subst (λ (z : LiveView). GoesTo z u) c.self.view_is
          (goes_handing there mid (option_to_list said) one u c.in-Some.ensures.named (log_leads v c.args.keeper s there mid c.args.plan c.log-logged.result said c.parted-said.result.1 parted c.log-logged.ensures.logged c.log-logged.ensures.refused) has same);
    }
