use Rattle.std.proofs.Common.{◌≡◌, ◌≢◌, ℕ, List, map, refl, sym, ap, subst, ◌∙◌}
use Rattle.std.specs.List.{Any}
use Rattle.std.proofs.lemmas.Result.{err_from_is_err_and}
use Rattle.ft_types.specs.Guests.{GuestParts}
use Rattle.log_join.specs.Stores.{StoreView, nothing}
use Rattle.guest_image.specs.Image.{guest_of}
use Rattle.guest_image.specs.Machine.{MachineState}
use Rattle.page_book.specs.Books.{BookView}
use Rattle.book_modes.specs.Recordings.{RecordingView}
use Rattle.hart_replay.proofs.failovers.Books.{counts_at_boot}
use Rattle.go_live.specs.Joined.{AreJoined}
use Rattle.go_live.specs.Lives.{opening_from, IsReplayed, LeadNowhere}
use Rattle.go_live.proofs.Newness.{not_both}
use Rattle.go_live.proofs.Joins.{joined_guest, joined_below}
use Rattle.go_live.proofs.Places.{term_below}
use Rattle.hart_replay.specs.declared.fault.ReplayFault.TheVariants.{OtherGuest}
use Rattle.hart_replay.specs.Images.{GuestHistory}
use Rattle.go_live.specs.Histories.{AreOfHistory}
use Rattle.go_live.proofs.Longer.{starts, never_nowhere, longer}
use Rattle.go_live.proofs.Causes.{never_old, replay_told}
use Rattle.go_live.proofs.live.go_live.Goals as goal

pub returns-then-not-is_new-clause-other_guest : goal.returns-then-not-is_new-clause-other_guest
returns-then-not-is_new-clause-other_guest c = (
  λ e. cc,
  λ (enough, new, any). absurd (not_both (map (λ s. s.1.now) c.args.stores.now) c.args.term new (c.if-not-is_new.ensures.old (λ t. cc))),
)

pub returns-then-not-are_of-clause-not_new : goal.returns-then-not-are_of-clause-not_new
returns-then-not-are_of-clause-not_new c = (
  λ e. cc,
  λ (enough, old). absurd (not_both (map (λ s. s.1.now) c.args.stores.now) c.args.term (c.if-not-is_new.ensures.new refl) old),
)

pub returns-then-not-are_of-clause-other_guest : goal.returns-then-not-are_of-clause-other_guest
returns-then-not-are_of-clause-other_guest c = (
  λ e. (
    c.if-not-are_enough.ensures.0 refl,
    c.if-not-is_new.ensures.new refl,
    subst (λ (guest : GuestParts). Any (λ (store : StoreView). store.guest ≢ guest) (map (λ s. s.1.now) c.args.stores.now)) c.guest-guest.ensures
        (c.if-not-are_of.ensures.foreign (λ t. cc)),
  ),
  λ x. refl,
)

pub returns-in_err-joined-clause-not_new : goal.returns-in_err-joined-clause-not_new
returns-in_err-joined-clause-not_new c =
    let p = err_from_is_err_and c.from_residual.result c.from_residual.ensures.1 in
    rw (p.1, p.2) (
      λ e. cc,
      λ (enough, old). absurd (not_both (map (λ s. s.1.now) c.args.stores.now) c.args.term (c.if-not-is_new.ensures.new refl) old),
    )

pub replay_to-requires : goal.replay_to-requires
replay_to-requires c =
    joined_guest (nothing c.guest-guest.result) (map (λ s. s.1.now) c.args.stores.now) c.in_ok-joined.joined c.in_ok-joined.ensures ∙ c.guest-guest.ensures

pub returns-in_err-position-clause-not_new : goal.returns-in_err-position-clause-not_new
returns-in_err-position-clause-not_new c =
    let p = err_from_is_err_and c.from_residual-in_err-position.result c.from_residual-in_err-position.ensures.1 in
    rw (p.1, p.2) (
      λ e. absurd (never_old c.in_err-position.field-0.0 (cc)),
      λ (enough, old). absurd (not_both (map (λ s. s.1.now) c.args.stores.now) c.args.term (c.if-not-is_new.ensures.new refl) old),
    )

pub returns-in_err-position-clause-replay : goal.returns-in_err-position-clause-replay
returns-in_err-position-clause-replay c =
    let p = err_from_is_err_and c.from_residual-in_err-position.result c.from_residual-in_err-position.ensures.1 in
    let stores = map (λ s. s.1.now) c.args.stores.now in
    let joined : AreJoined (guest_of c.args.image.now) stores c.in_ok-joined.joined =
    subst (λ (guest : GuestParts). AreJoined guest stores c.in_ok-joined.joined) c.guest-guest.ensures c.in_ok-joined.ensures in
    rw (p.1, p.2)
    (replay_told (λ f. f ≢ OtherGuest → LeadNowhere c.args.image.now stores f) c.in_err-position.field-0.0
    (λ ne own. (c.in_ok-joined.joined, joined, c.in_err-position.ensures.fault ne)))

pub returns-in_err-position-clause-history_ends : goal.returns-in_err-position-clause-history_ends
returns-in_err-position-clause-history_ends c =
    let p = err_from_is_err_and c.from_residual-in_err-position.result c.from_residual-in_err-position.ensures.1 in
    let stores = map (λ s. s.1.now) c.args.stores.now in
    let joined : AreJoined (guest_of c.args.image.now) stores c.in_ok-joined.joined =
    subst (λ (guest : GuestParts). AreJoined guest stores c.in_ok-joined.joined) c.guest-guest.ensures c.in_ok-joined.ensures in
    rw (p.1, p.2)
    (replay_told (λ f. (history : GuestHistory) → AreOfHistory c.args.image.now history stores → f ≡ OtherGuest) c.in_err-position.field-0.0
    (λ ne history honest. absurd (never_nowhere c.args.image.now history stores honest c.in_err-position.field-0.0
    (c.in_ok-joined.joined, joined, c.in_err-position.ensures.fault ne))))

pub opening_of-opening-requires-clause-later : goal.opening_of-opening-requires-clause-later
opening_of-opening-requires-clause-later c =
    let new = c.if-not-is_new.ensures.new refl in
    term_below c.in_ok-joined.joined c.in_ok-position.position c.args.term c.in_ok-position.ensures.replayed.is_position new.granted
    (joined_below c.guest-guest.result (map (λ s. s.1.now) c.args.stores.now) c.args.term c.in_ok-joined.joined new c.in_ok-joined.ensures)

pub opening_of-opening-requires-clause-boot : goal.opening_of-opening-requires-clause-boot
opening_of-opening-requires-clause-boot c =
    counts_at_boot c.in_ok-joined.joined c.in_ok-position.position c.in_ok-position.ensures.replayed.rules c.in_ok-position.ensures.replayed.is_position

pub returns-in_err-begin-clause-not_new : goal.returns-in_err-begin-clause-not_new
returns-in_err-begin-clause-not_new c =
    let p = err_from_is_err_and c.from_residual-in_err-begin.result c.from_residual-in_err-begin.ensures.1 in
    rw (p.1, p.2) (
      λ e. cc,
      λ (enough, old). absurd (not_both (map (λ s. s.1.now) c.args.stores.now) c.args.term (c.if-not-is_new.ensures.new refl) old),
    )

pub returns-clause-position : goal.returns-clause-position
returns-clause-position c =
    let stores = map (λ s. s.1.now) c.args.stores.now in
    record {
      joined = c.in_ok-joined.joined;
      are_joined = subst (λ (guest : GuestParts). AreJoined guest stores c.in_ok-joined.joined) c.guest-guest.ensures c.in_ok-joined.ensures;
      position = c.in_ok-position.position;
      replayed =
          subst (λ (m : List ℕ). IsReplayed c.args.image.now c.in_ok-joined.joined c.in_ok-position.position c.in_ok-begin.field-0.book.start m)
          (sym c.in_ok-begin.ensures.marks)
          (subst (λ (m : MachineState). IsReplayed c.args.image.now c.in_ok-joined.joined c.in_ok-position.position m c.in_ok-position.marks)
          (sym (ap (λ (b : BookView RecordingView). b.start) c.in_ok-begin.ensures.book)) c.in_ok-position.ensures.replayed);
      opened = c.in_ok-begin.ensures.opening ∙ c.opening_of-opening.ensures ∙ ap (λ (guest : GuestParts). opening_from guest c.args.term c.in_ok-position.position)
          c.guest-guest.ensures;
    }

pub returns-clause-not_new : goal.returns-clause-not_new
returns-clause-not_new c = (
  λ e. cc,
  λ (enough, old). absurd (not_both (map (λ s. s.1.now) c.args.stores.now) c.args.term (c.if-not-is_new.ensures.new refl) old),
)

pub returns-clause-history : goal.returns-clause-history
returns-clause-history c = λ history honest.
    starts c.args.image.now history (map (λ s. s.1.now) c.args.stores.now) honest c.args.term c.in_ok-begin.field-0.book.start c.in_ok-begin.field-0.opening
    c.in_ok-begin.field-0.marks (returns-clause-position c)

pub returns-clause-longer : goal.returns-clause-longer
returns-clause-longer c = λ history honest.
    longer c.args.image.now history (map (λ s. s.1.now) c.args.stores.now) honest c.args.term c.in_ok-begin.field-0.book.start
    c.in_ok-begin.field-0.opening c.in_ok-begin.field-0.marks (c.if-not-is_new.ensures.new refl) (returns-clause-position c)
