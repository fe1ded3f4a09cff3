use Rattle.std.proofs.Common.{◌≡◌, ◌≢◌, List, map, Result, Err, refl, sym, ap, subst, ◌∙◌}
use Rattle.std.proofs.lemmas.Result.{err_from_is_err_and}
use Rattle.std.specs.List.{Any}
use Rattle.ft_types.specs.Guests.{GuestParts}
use Rattle.log_join.specs.Stores.{StoreView}
use Rattle.hart_replay.specs.Images.{GuestHistory}
use Rattle.hart_replay.specs.declared.fault.ReplayFault.TheVariants.{OtherGuest}
use Rattle.go_live.specs.declared.fault.LiveFault.{LiveFault}
use Rattle.go_live.specs.Faults.{IfReplay as IfReplayOf}
use Rattle.go_live.specs.Quorums.{IsOld}
use Rattle.go_live.specs.Histories.{AreOfHistory}
use Rattle.go_live.specs.Lives.{LeadNowhere}
use Rattle.go_live.proofs.Newness.{not_both}
use Rattle.fenced_live.specs.Given.{IfReplay}
use Rattle.fenced_live.specs.declared.fault.GivenFault.{GivenFault}
use Rattle.fenced_live.specs.declared.fault.GivenFault.TheVariants.{Live}
use Rattle.fenced_live.proofs.live.go_live_given.Goals as goal

-- a fault of going live is told as it is
same_live : {A : Type 0} (r : Result A GivenFault) (f g : LiveFault) (e : GivenFault) → r ≡ Err e → e ≡ Live f → r ≡ Err (Live g) → f ≡ g
same_live {A} r f g e one two three =
    let q : ◌≡◌ {A = Result A GivenFault} (Err (Live f)) (Err (Live g)) = ap Err (sym two) ∙ sym one ∙ three in cc

pub returns-then-not-is_new-clause-other_guest : goal.returns-then-not-is_new-clause-other_guest
returns-then-not-is_new-clause-other_guest c = (
  λ e. absurd cc,
  λ all. absurd (not_both (map (λ g. g.store.now) c.args.given.now) c.args.term all.2 (c.if-not-is_new.ensures.old (λ e. cc))),
)

pub returns-then-not-are_of-clause-not_new : goal.returns-then-not-are_of-clause-not_new
returns-then-not-are_of-clause-not_new c = (
  λ e. absurd cc,
  λ all. absurd (not_both (map (λ g. g.store.now) c.args.given.now) c.args.term (c.if-not-is_new.ensures.new refl) all.2),
)

pub returns-then-not-are_of-clause-other_guest : goal.returns-then-not-are_of-clause-other_guest
returns-then-not-are_of-clause-other_guest c = (
  λ e. (
    c.if-not-are_to.ensures.own refl,
    c.if-not-are_enough.ensures.0 refl,
    c.if-not-is_new.ensures.new refl,
    subst (λ (guest : GuestParts). Any (λ store. store.guest ≢ guest) (map (λ g. g.store.now) c.args.given.now)) c.guest-guest.ensures
        (c.if-not-are_of.ensures.foreign (λ e. cc)),
  ),
  λ all. refl,
)

pub returns-in_default-clause-not_new : goal.returns-in_default-clause-not_new
returns-in_default-clause-not_new c = (
  λ e. absurd cc,
  λ all. absurd (not_both (map (λ g. g.store.now) c.args.given.now) c.args.term (c.if-not-is_new.ensures.new refl) all.2),
)

pub returns-in_err-live-clause-not_new : goal.returns-in_err-live-clause-not_new
returns-in_err-live-clause-not_new c =
    let are : map (λ s. s.1.now) c.as_slice.result.now ≡ map (λ g. g.store.now) c.args.given.now =
    ap (λ xs. map (λ s. s.1.now) xs) c.as_slice.ensures.value ∙ c.in-Ok.ensures.stores in
    let e = err_from_is_err_and c.from_residual.result c.from_residual.ensures.1 in (
      λ told.
          absurd (not_both (map (λ g. g.store.now) c.args.given.now) c.args.term (c.if-not-is_new.ensures.new refl)
          (subst (λ (xs : List StoreView). IsOld xs c.args.term) are
          (c.in_err-live.ensures.not_new.0 (ap Err (same_live c.from_residual.result c.in_err-live.field-0.0 LiveFault.TermNotNew e.0 e.1 e.2 told))).1)),
      λ all. absurd (not_both (map (λ g. g.store.now) c.args.given.now) c.args.term (c.if-not-is_new.ensures.new refl) all.2),
    )

pub returns-in_err-live-clause-replay : goal.returns-in_err-live-clause-replay
returns-in_err-live-clause-replay c =
    let are : map (λ s. s.1.now) c.as_slice.result.now ≡ map (λ g. g.store.now) c.args.given.now =
    ap (λ xs. map (λ s. s.1.now) xs) c.as_slice.ensures.value ∙ c.in-Ok.ensures.stores in
    let e = err_from_is_err_and c.from_residual.result c.from_residual.ensures.1 in
    rw (e.1)
    (subst (λ f. IfReplay f (λ fault. fault ≢ OtherGuest → LeadNowhere c.args.image.now (map (λ g. g.store.now) c.args.given.now) fault)) (sym e.2)
    (subst (λ (xs : List StoreView). IfReplayOf c.in_err-live.field-0.0 (λ fault. fault ≢ OtherGuest → LeadNowhere c.args.image.now xs fault)) are
    c.in_err-live.ensures.replay))

pub returns-in_err-live-clause-history_ends : goal.returns-in_err-live-clause-history_ends
returns-in_err-live-clause-history_ends c =
    let are : map (λ s. s.1.now) c.as_slice.result.now ≡ map (λ g. g.store.now) c.args.given.now =
    ap (λ xs. map (λ s. s.1.now) xs) c.as_slice.ensures.value ∙ c.in-Ok.ensures.stores in
    let e = err_from_is_err_and c.from_residual.result c.from_residual.ensures.1 in
    rw (e.1)
    (subst (λ f. IfReplay f (λ fault. (history : GuestHistory) → AreOfHistory c.args.image.now history (map (λ g. g.store.now) c.args.given.now) → fault ≡ OtherGuest)) (sym e.2)
    (subst (λ (xs : List StoreView). IfReplayOf c.in_err-live.field-0.0 (λ fault. (history : GuestHistory) → AreOfHistory c.args.image.now history xs → fault ≡ OtherGuest)) are
    c.in_err-live.ensures.history_ends))

pub returns-clause-not_new : goal.returns-clause-not_new
returns-clause-not_new c = (
  λ e. absurd cc,
  λ all. absurd (not_both (map (λ g. g.store.now) c.args.given.now) c.args.term (c.if-not-is_new.ensures.new refl) all.2),
)

pub returns-clause-history : goal.returns-clause-history
returns-clause-history c =
    let are : map (λ s. s.1.now) c.as_slice.result.now ≡ map (λ g. g.store.now) c.args.given.now =
    ap (λ xs. map (λ s. s.1.now) xs) c.as_slice.ensures.value ∙ c.in-Ok.ensures.stores in
    λ history honest. c.in_ok-live.ensures.history history (subst (AreOfHistory c.args.image.now history) (sym are) honest)

pub returns-clause-longer : goal.returns-clause-longer
returns-clause-longer c =
    let are : map (λ s. s.1.now) c.as_slice.result.now ≡ map (λ g. g.store.now) c.args.given.now =
    ap (λ xs. map (λ s. s.1.now) xs) c.as_slice.ensures.value ∙ c.in-Ok.ensures.stores in
    λ history honest. c.in_ok-live.ensures.longer history (subst (AreOfHistory c.args.image.now history) (sym are) honest)
