use Rattle.std.proofs.Common.{◌≡◌, Bool, true, false, ℕ, List, Option, refl, sym, ap, subst, ◌∙◌, IfErr, OnOk}
use Rattle.std.proofs.lemmas.Result.{err_from_is_err_and}
use Rattle.guest_image.specs.Image.{guest_of}
use Rattle.ft_types.specs.Guests.{GuestParts}
use Rattle.wire.specs.declared.acknowledgements.Acknowledgement.{Acknowledgement}
use Rattle.live_world.specs.declared.event.KeeperEvent.TheVariants as on
use Rattle.live_world.specs.declared.fault.EventFault.{EventFault}
use Rattle.live_world.specs.declared.fault.EventFault.TheVariants as fault
use Rattle.live_world.specs.declared.hand.HandedTo.{HandedTo}
use Rattle.live_world.specs.Happenings.{KeeperHappens}
use Rattle.live_world.specs.Refusals.{KeeperRefuses}
use Rattle.live_world.specs.Renewals.{HasSaidSince, IsNewLog, IsNoNewLog}
use Rattle.live_world.specs.Views.{GoesTo, LiveView}
use Rattle.live_world.proofs.Following.{goes_nowhere}
use Rattle.live_world.proofs.Renewed.{none_new, renew_goes, renew_happens, renew_left, renew_refused}
use Rattle.live_world.proofs.SiteEvents.{shown}
use Rattle.live_world.proofs.parts.LiveParts.renew.Goals as goal

pub returns-then-has_said-clause-refused : goal.returns-then-has_said-clause-refused
returns-then-has_said-clause-refused c =
    let v : LiveView = shown c.self.inside in
    subst (λ (z : LiveView). KeeperRefuses z (on.Renew c.args.keeper c.args.term c.args.handed) fault.HasSaid) c.self.view_is
    (subst (λ (said : List Acknowledgement). HasSaidSince said c.args.keeper c.args.term) c.deref.ensures.value (c.has_said.ensures.0 c.if-has_said.true))

pub returns-then-has_said-clause-goes : goal.returns-then-has_said-clause-goes
returns-then-has_said-clause-goes c = goes_nowhere {v = c.args.self.now} {u = c.args.self.now} refl

pub returns-in_err-files-clause-refused : goal.returns-in_err-files-clause-refused
returns-in_err-files-clause-refused c =
    let v : LiveView = shown c.self.inside in
    let f : EventFault = c.in_err-files.field-0.0 in
    let not : IsNoNewLog (guest_of v.image) v.quorum c.args.keeper c.args.term v.handed c.args.handed.items f =
    subst (λ (guest : GuestParts). IsNoNewLog guest v.quorum c.args.keeper c.args.term v.handed c.args.handed.items f) c.guest-guest.ensures
    (subst (λ (all : List HandedTo). IsNoNewLog c.guest-guest.result v.quorum c.args.keeper c.args.term all c.args.handed.items f) c.deref-2.ensures.value
    (subst (λ (numbers : List ℕ). IsNoNewLog c.guest-guest.result v.quorum c.args.keeper c.args.term c.deref-2.result.now numbers f) c.deref-3.ensures.value
    c.in_err-files.ensures.refused)) in
    let e = err_from_is_err_and c.from_residual.result c.from_residual.ensures.1 in
    rw (e.1)
    (subst (λ (f : EventFault). KeeperRefuses c.args.self.now (on.Renew c.args.keeper c.args.term c.args.handed) f) (sym e.2)
    (subst (λ (z : LiveView). KeeperRefuses z (on.Renew c.args.keeper c.args.term c.args.handed) f) c.self.view_is
    (none_new v c.args.keeper c.args.term c.args.handed f not)))

pub returns-in_err-files-clause-goes : goal.returns-in_err-files-clause-goes
returns-in_err-files-clause-goes c = goes_nowhere {v = c.args.self.now} {u = c.args.self.now} refl

pub returns : goal.returns
returns c =
    let v : LiveView = shown c.self.inside in
    let sites = c.replace_site.new.sites.items in
    let u : LiveView = record v { sites = sites } in
    let files = c.in_ok-files.files in
    let r = c.replace_site.result in
    let new : IsNewLog (guest_of v.image) v.quorum c.args.keeper c.args.term v.handed c.args.handed.items files =
    subst (λ (guest : GuestParts). IsNewLog guest v.quorum c.args.keeper c.args.term v.handed c.args.handed.items files) c.guest-guest.ensures
    (subst (λ (all : List HandedTo). IsNewLog c.guest-guest.result v.quorum c.args.keeper c.args.term all c.args.handed.items files) c.deref-2.ensures.value
    (subst (λ (numbers : List ℕ). IsNewLog c.guest-guest.result v.quorum c.args.keeper c.args.term c.deref-2.result.now numbers files) c.deref-3.ensures.value
    c.in_ok-files.ensures.new)) in
    let silent = λ (has : HasSaidSince v.said c.args.keeper c.args.term).
    let said : ◌≡◌ {A = Bool} false true =
    c.if-has_said.ensures.1 (subst (λ (said : List Acknowledgement). HasSaidSince said c.args.keeper c.args.term) (sym c.deref.ensures.value) has) in absurd cc in
    record {
      happens = subst (λ (z : LiveView). OnOk r (KeeperHappens z (on.Renew c.args.keeper c.args.term c.args.handed) u)) c.self.view_is
          (renew_happens v c.args.keeper c.args.term c.args.handed files silent new r sites c.replace_site.ensures.replaced);
      refused = subst (λ (z : LiveView). IfErr r (KeeperRefuses z (on.Renew c.args.keeper c.args.term c.args.handed))) c.self.view_is
          (renew_refused v c.args.keeper c.args.term c.args.handed r c.replace_site.ensures.refused);
      left = subst (λ (z : LiveView). IfErr r (λ f. u ≡ z)) c.self.view_is
          (renew_left v c.args.keeper c.args.term c.args.handed r sites c.replace_site.ensures.err);
      goes = subst (λ (z : LiveView). GoesTo z u) c.self.view_is
          (renew_goes v c.args.keeper c.args.term c.args.handed files silent new r sites c.replace_site.ensures.replaced c.replace_site.ensures.err);
    }
