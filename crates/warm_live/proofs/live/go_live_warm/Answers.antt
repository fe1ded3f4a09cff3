use Rattle.std.proofs.Common.{◌≡◌, ◌≢◌, ◌∷◌, map, length, ap, arith}
use Rattle.std.proofs.lemmas.Result.{err_from_is_err_and}
use Rattle.std.proofs.lemmas.List.{take_all}
use Rattle.guest_image.specs.Image.{guest_of}
use Rattle.hart_replay.specs.declared.fault.ReplayFault.TheVariants.{OtherGuest}
use Rattle.hart_replay.specs.Images.{GuestHistory}
use Rattle.hart_replay.proofs.failovers.Books.{counts_at_boot}
use Rattle.go_live.specs.Histories.{AreOfHistory}
use Rattle.go_live.specs.Lives.{LeadNowhere}
use Rattle.go_live.proofs.Causes.{replay_told}
use Rattle.go_live.proofs.Joins.{joined_below}
use Rattle.go_live.proofs.Longer.{starts, never_nowhere, longer}
use Rattle.go_live.proofs.Newness.{not_both}
use Rattle.go_live.proofs.Places.{term_below}
use Rattle.warm_live.proofs.Caught.{at_position, joined_first}
use Rattle.warm_live.proofs.live.go_live_warm.Goals as goal

pub returns-in_err-catch_up-clause-replay : goal.returns-in_err-catch_up-clause-replay
returns-in_err-catch_up-clause-replay c =
    let p = err_from_is_err_and c.from_residual.result c.from_residual.ensures.1 in
    let all = c.args.backup.now.store ∷ map (λ s. s.1.now) c.args.stores.now in
    rw (p.1, p.2)
    (replay_told (λ f. f ≢ OtherGuest → LeadNowhere c.args.backup.now.image all f) c.in_err-catch_up.field-0.0
    (λ ne own. c.in_err-catch_up.ensures.fault ne))

pub returns-in_err-catch_up-clause-history_ends : goal.returns-in_err-catch_up-clause-history_ends
returns-in_err-catch_up-clause-history_ends c =
    let p = err_from_is_err_and c.from_residual.result c.from_residual.ensures.1 in
    let all = c.args.backup.now.store ∷ map (λ s. s.1.now) c.args.stores.now in
    rw (p.1, p.2)
    (replay_told (λ f. (history : GuestHistory) → AreOfHistory c.args.backup.now.image history all → f ≡ OtherGuest) c.in_err-catch_up.field-0.0
    (λ ne history honest. absurd (never_nowhere c.args.backup.now.image history all honest c.in_err-catch_up.field-0.0
    (c.in_err-catch_up.ensures.fault ne))))

pub returns-in_err-go_on-clause-some : goal.returns-in_err-go_on-clause-some
returns-in_err-go_on-clause-some c =
    let stores = map (λ s. s.1.now) c.args.stores.now in
    let p = err_from_is_err_and c.from_residual-in_err-go_on.result c.from_residual-in_err-go_on.ensures.1 in
    rw p.1 (length stores, rw (take_all (length stores) stores (omega arith)) c.in_ok-catch_up.ensures.caught.joined)

pub returns-clause-not_new : goal.returns-clause-not_new
returns-clause-not_new c = (
  λ e. cc,
  λ (enough, old). absurd (not_both (c.args.backup.now.store ∷ map (λ s. s.1.now) c.args.stores.now) c.args.term c.in-Ok.ensures.new old),
)

pub go_on-requires-clause-later : goal.go_on-requires-clause-later
go_on-requires-clause-later c =
    let old = c.args.backup.now in
    let new = c.catch_up.new.backup in
    let has = c.in_ok-catch_up.ensures.caught in
    let stores = map (λ s. s.1.now) c.args.stores.now in
    let later = c.in-Ok.ensures.new in
    term_below new.store new.position c.args.term has.position later.granted
    (joined_below (guest_of old.image) (old.store ∷ stores) c.args.term new.store later
    (joined_first (guest_of old.image) old.store stores new.store has.guest has.joined))

pub go_on-requires-clause-boot : goal.go_on-requires-clause-boot
go_on-requires-clause-boot c =
    let has = c.in_ok-catch_up.ensures.caught in
    counts_at_boot c.catch_up.new.backup.store c.catch_up.new.backup.position has.rules has.position

pub returns-clause-position : goal.returns-clause-position
returns-clause-position c =
    let live = c.in_ok-go_on.field-0 in
    at_position c.args.backup.now (map (λ s. s.1.now) c.args.stores.now) c.catch_up.new.backup c.in_ok-catch_up.ensures.caught c.args.term live.book.start
    live.opening live.marks (ap (λ b. b.start) c.in_ok-go_on.ensures.book) c.in_ok-go_on.ensures.opening c.in_ok-go_on.ensures.marks

pub returns-clause-joined : goal.returns-clause-joined
returns-clause-joined c =
    let has = c.in_ok-catch_up.ensures.caught in
    joined_first (guest_of c.args.backup.now.image) c.args.backup.now.store (map (λ s. s.1.now) c.args.stores.now) c.catch_up.new.backup.store has.guest has.joined

pub returns-clause-history : goal.returns-clause-history
returns-clause-history c = λ history honest.
    let live = c.in_ok-go_on.field-0 in
    starts c.args.backup.now.image history (c.args.backup.now.store ∷ map (λ s. s.1.now) c.args.stores.now) honest c.args.term live.book.start live.opening
    live.marks (returns-clause-position c)

pub returns-clause-longer : goal.returns-clause-longer
returns-clause-longer c = λ history honest.
    let live = c.in_ok-go_on.field-0 in
    longer c.args.backup.now.image history (c.args.backup.now.store ∷ map (λ s. s.1.now) c.args.stores.now) honest c.args.term live.book.start live.opening
    live.marks c.in-Ok.ensures.new (returns-clause-position c)
