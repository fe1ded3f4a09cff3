use Rattle.std.proofs.Common.{◌≡◌, List, [], Option, Some, refl, sym, ap, subst, ◌∙◌, ◌++◌, option_to_list, slice_set}
use Rattle.std.proofs.lemmas.List.{append-nil}
use Rattle.std.proofs.lemmas.Result.{err_from_is_err_and}
use Rattle.guest_image.specs.Image.{guest_of}
use Rattle.ft_types.specs.Guests.{GuestParts}
use Rattle.live_world.specs.declared.event.KeeperEvent.TheVariants as on
use Rattle.live_world.specs.declared.hand.HandedTo.{HandedTo}
use Rattle.live_world.specs.declared.site.Site.{Site}
use Rattle.live_world.specs.Calls.{HandsRead, IsNotHandedOver}
use Rattle.live_world.specs.Happenings.{KeeperHappens}
use Rattle.live_world.specs.Refusals.{KeeperLeaves}
use Rattle.live_world.specs.Views.{GoesTo, LiveView}
use Rattle.live_world.proofs.AtSites.{moved}
use Rattle.live_world.specs.Sites.{site_at}
use Rattle.live_world.specs.declared.fault.EventFault.{EventFault}
use Rattle.live_world.specs.Shelves.{HandDoes, ShelfView}
use Rattle.live_world.proofs.SiteCalls.{goes_handing, goes_plain, hand_leads, unread}
use Rattle.live_world.proofs.SiteEvents.{all_still, hand_happens, hand_not_handed, nothing_goes, put_same_back, shown, stays_left, swapped_unread}
use Rattle.live_world.proofs.parts.LiveParts.hand.Goals as goal

pub returns-in_err-make_room-clause-goes : goal.returns-in_err-make_room-clause-goes
returns-in_err-make_room-clause-goes c =
    let v : LiveView = shown c.self.inside in
    let u : LiveView = record v { handed = c.make_room.new.items.items } in
    subst (λ (z : LiveView). GoesTo z u) c.self.view_is (nothing_goes v v.sites v.said c.make_room.new.items.items refl refl c.in_err-make_room.ensures.same)

pub returns-in_default-clause-goes : goal.returns-in_default-clause-goes
returns-in_default-clause-goes c =
    let v : LiveView = shown c.self.inside in
    let u : LiveView = record v { sites = c.take_site.new.sites.items; handed = c.make_room.new.items.items } in
    subst (λ (z : LiveView). GoesTo z u) c.self.view_is (nothing_goes v c.take_site.new.sites.items v.said c.make_room.new.items.items c.in_default.ensures.none.1 refl c.in_ok-make_room.ensures.same)

pub returns-in-Err-clause-left : goal.returns-in-Err-clause-left
returns-in-Err-clause-left c =
    let v : LiveView = shown c.self.inside in
    let s : Site = c.in-Some.site in
    let back : c.put_site.new.sites.items ≡ v.sites =
    put_same_back v c.args.keeper s c.take_site.new.sites.items c.put_site.new.sites.items c.in-Some.ensures.some.0 c.in-Some.ensures.some.1
    (c.put_site.ensures ∙ ap (λ (x : ShelfView). slice_set c.take_site.new.sites.items c.args.keeper (Some (record s { files = x }))) c.in-Err.ensures.err) in
    let u : LiveView = record v { sites = c.put_site.new.sites.items; handed = c.make_room.new.items.items } in
    subst (λ (z : LiveView). KeeperLeaves z (on.Hand c.args.keeper c.args.act) c.in-Err.fault u) c.self.view_is
    (stays_left v c.args.keeper s c.in-Some.ensures.some.0 s c.args.act c.in-Err.fault u c.in-Err.ensures.why (all_still v u.sites v.said u.handed back refl c.in_ok-make_room.ensures.same))

pub returns-in-Err-clause-goes : goal.returns-in-Err-clause-goes
returns-in-Err-clause-goes c =
    let v : LiveView = shown c.self.inside in
    let s : Site = c.in-Some.site in
    let back : c.put_site.new.sites.items ≡ v.sites =
    put_same_back v c.args.keeper s c.take_site.new.sites.items c.put_site.new.sites.items c.in-Some.ensures.some.0 c.in-Some.ensures.some.1
    (c.put_site.ensures ∙ ap (λ (x : ShelfView). slice_set c.take_site.new.sites.items c.args.keeper (Some (record s { files = x }))) c.in-Err.ensures.err) in
    let u : LiveView = record v { sites = c.put_site.new.sites.items; handed = c.make_room.new.items.items } in
    subst (λ (z : LiveView). GoesTo z u) c.self.view_is
    (nothing_goes v u.sites v.said u.handed back refl c.in_ok-make_room.ensures.same)

pub returns-in_err-handed-clause-left : goal.returns-in_err-handed-clause-left
returns-in_err-handed-clause-left c =
    let v : LiveView = shown c.self.inside in
    let s : Site = c.in-Some.site in
    let mid : Site = record s { files = c.hand_does.new.self } in
    let there : site_at v.sites c.args.keeper ≡ Some s = c.in-Some.ensures.some.0 in
    let does : HandDoes c.args.act s.files c.hand_does.new.self = c.in_default-hand_does.ensures.done in
    let fails : IsNotHandedOver (guest_of v.image) mid c.in_err-handed.field-0.0 =
    subst (λ (g : GuestParts). IsNotHandedOver g mid c.in_err-handed.field-0.0) c.guest.ensures c.in_err-handed.ensures.refused in
    let u : LiveView = record v { sites = c.put_site-2.new.sites.items; handed = c.make_room.new.items.items } in
    let same : u ≡ moved v c.args.keeper (unread mid) [] [] =
    swapped_unread v c.args.keeper mid c.handed-handed.new.site [] [] c.take_site.new.sites.items c.put_site-2.new.sites.items
    v.said c.make_room.new.items.items c.in-Some.ensures.some.1 c.put_site-2.ensures c.handed-handed.ensures.rest (sym (append-nil v.said)) (c.in_ok-make_room.ensures.same ∙ sym (append-nil v.handed)) in
    let e = err_from_is_err_and c.from_residual-in_err-handed.result c.from_residual-in_err-handed.ensures.1 in
    rw (e.1)
    (subst (λ (f : EventFault). KeeperLeaves c.args.self.now (on.Hand c.args.keeper c.args.act) f u) (sym e.2)
    (subst (λ (z : LiveView). KeeperLeaves z (on.Hand c.args.keeper c.args.act) c.in_err-handed.field-0.0 u) c.self.view_is
    (hand_not_handed v c.args.keeper s there mid c.args.act does refl c.in_err-handed.field-0.0 u fails same)))

pub returns-in_err-handed-clause-goes : goal.returns-in_err-handed-clause-goes
returns-in_err-handed-clause-goes c =
    let v : LiveView = shown c.self.inside in
    let s : Site = c.in-Some.site in
    let mid : Site = record s { files = c.hand_does.new.self } in
    let there : site_at v.sites c.args.keeper ≡ Some s = c.in-Some.ensures.some.0 in
    let does : HandDoes c.args.act s.files c.hand_does.new.self = c.in_default-hand_does.ensures.done in
    let fails : IsNotHandedOver (guest_of v.image) mid c.in_err-handed.field-0.0 =
    subst (λ (g : GuestParts). IsNotHandedOver g mid c.in_err-handed.field-0.0) c.guest.ensures c.in_err-handed.ensures.refused in
    let u : LiveView = record v { sites = c.put_site-2.new.sites.items; handed = c.make_room.new.items.items } in
    let same : u ≡ moved v c.args.keeper (unread mid) [] [] =
    swapped_unread v c.args.keeper mid c.handed-handed.new.site [] [] c.take_site.new.sites.items c.put_site-2.new.sites.items
    v.said c.make_room.new.items.items c.in-Some.ensures.some.1 c.put_site-2.ensures c.handed-handed.ensures.rest (sym (append-nil v.said)) (c.in_ok-make_room.ensures.same ∙ sym (append-nil v.handed)) in
    subst (λ (z : LiveView). GoesTo z u) c.self.view_is
    (goes_plain there mid (unread mid) [] u refl (hand_leads there c.args.act mid does refl) same)

pub returns : goal.returns
returns c =
    let v : LiveView = shown c.self.inside in
    let s : Site = c.in-Some.site in
    let mid : Site = record s { files = c.hand_does.new.self } in
    let there : site_at v.sites c.args.keeper ≡ Some s = c.in-Some.ensures.some.0 in
    let does : HandDoes c.args.act s.files c.hand_does.new.self = c.in_default-hand_does.ensures.done in
    let one : Option HandedTo = c.in_ok-handed.field-0 in
    let has : HandsRead (guest_of v.image) c.args.keeper mid one =
    subst (λ (g : GuestParts). HandsRead g c.args.keeper mid one) c.guest.ensures c.in_ok-handed.ensures.handed in
    let hands : c.add_some.new.items.items ≡ v.handed ++ option_to_list one =
    c.add_some.ensures ∙ ap (λ (x : List HandedTo). x ++ option_to_list one) c.in_ok-make_room.ensures.same in
    let u : LiveView = record v { sites = c.put_site-2.new.sites.items; handed = c.add_some.new.items.items } in
    let same : u ≡ moved v c.args.keeper (unread mid) [] (option_to_list one) =
    swapped_unread v c.args.keeper mid c.handed-handed.new.site [] (option_to_list one) c.take_site.new.sites.items c.put_site-2.new.sites.items
    v.said c.add_some.new.items.items c.in-Some.ensures.some.1 c.put_site-2.ensures c.handed-handed.ensures.rest (sym (append-nil v.said)) hands in
    record {
      happens = subst (λ (z : LiveView). KeeperHappens z (on.Hand c.args.keeper c.args.act) u) c.self.view_is
          (hand_happens v c.args.keeper s there mid c.args.act does refl one u has same);
      refused = tt;
      left = tt;
      goes = subst (λ (z : LiveView). GoesTo z u) c.self.view_is
          (goes_handing there mid [] one u c.in-Some.ensures.named (hand_leads there c.args.act mid does refl) has same);
    }
