use Rattle.std.proofs.Common.{◌≡◌, ℕ, ◌+◌, List, Option, ◌∙◌, refl, sym, ap, subst}
use Rattle.ft_types.specs.Guests.{GuestParts}
use Rattle.std.specs.Option.{option_map}
use Rattle.ft_types.specs.Counts.{count_at}
use Rattle.fragment_codec.specs.declared.types.Key.{Key}
use Rattle.log_join.specs.Cells.{Absent, One}
use Rattle.log_join.specs.Stores.{StoreView, opening_at}
use Rattle.closed_cut.specs.Position.{base_of, pieces_of, InChain, Stops}
use Rattle.tracked_position.specs.machinery.Cuts.{IsCutOf}
use Rattle.tracked_position.specs.machinery.Walks.{AreOver}
use Rattle.tracked_position.specs.machinery.Legs.{IsNext}
use Rattle.tracked_position.specs.machinery.Keeping.{AreBeyond, IsTracked}
use Rattle.tracked_position.proofs.Growth.{HasOneMore, one_more}
use Rattle.tracked_position.proofs.Keeping.{over_more, cut_here, chain_here, sound_here, tracked_here, tracked_moved, tracked_apart}
use Rattle.tracked_position.proofs.taking.take_here.Goals as goal

pub go_on-position-requires-clause-sound : goal.go_on-position-requires-clause-sound
go_on-position-requires-clause-sound c =
    let old = c.args.store.now in
    let new = c.put_new.new.self in
    let more : HasOneMore old new c.args.fragment = one_more old new c.args.fragment c.requires.new c.in_ok-put_new.ensures.joined in
    sound_here old new c.args.fragment c.requires.tracked.rules c.guest-rules.ensures.rules more c.args.position.now c.args.opening.now
    c.requires.tracked.position c.requires.opening

pub go_on-position-requires-clause-opening : goal.go_on-position-requires-clause-opening
go_on-position-requires-clause-opening c =
    let old = c.args.store.now in
    let new = c.put_new.new.self in
    let p = c.args.position.now in
    let o = c.args.opening.now in
    let more : HasOneMore old new c.args.fragment = one_more old new c.args.fragment c.requires.new c.in_ok-put_new.ensures.joined in
    let at : o.term ≡ p.term = (c.requires.tracked.rules.openings p.term o c.requires.opening).same_term in
    subst (λ t. opening_at new t ≡ One o) (sym at) (more.openings p.term ∙ c.requires.opening)

pub go_on-position-requires-clause-in_chain : goal.go_on-position-requires-clause-in_chain
go_on-position-requires-clause-in_chain c =
    let old = c.args.store.now in
    let new = c.put_new.new.self in
    let p = c.args.position.now in
    let o = c.args.opening.now in
    let more : HasOneMore old new c.args.fragment = one_more old new c.args.fragment c.requires.new c.in_ok-put_new.ensures.joined in
    let at : o.term ≡ p.term = (c.requires.tracked.rules.openings p.term o c.requires.opening).same_term in
    subst (λ t. InChain new t p.top) (sym at)
    (chain_here old new c.args.fragment c.requires.tracked.rules c.guest-rules.ensures.rules more p o c.requires.tracked.position c.requires.opening)

pub go_on-position-requires-clause-cut : goal.go_on-position-requires-clause-cut
go_on-position-requires-clause-cut c =
    let old = c.args.store.now in
    let new = c.put_new.new.self in
    let p = c.args.position.now in
    let o = c.args.opening.now in
    let more : HasOneMore old new c.args.fragment = one_more old new c.args.fragment c.requires.new c.in_ok-put_new.ensures.joined in
    let at : o.term ≡ p.term = (c.requires.tracked.rules.openings p.term o c.requires.opening).same_term in
    subst (λ t. (limit : Option (List ℕ)) → IsNext new p.top t limit → IsCutOf new t (base_of o) (option_map count_at limit) (count_at p.counts)) (sym at)
    (cut_here old new c.args.fragment c.requires.tracked.rules c.guest-rules.ensures.rules more p o c.requires.tracked.position c.requires.opening)

pub go_on-position-requires-clause-over : goal.go_on-position-requires-clause-over
go_on-position-requires-clause-over c =
    let old = c.args.store.now in
    let new = c.put_new.new.self in
    let p = c.args.position.now in
    let o = c.args.opening.now in
    let more : HasOneMore old new c.args.fragment = one_more old new c.args.fragment c.requires.new c.in_ok-put_new.ensures.joined in
    let at : o.term ≡ p.term = (c.requires.tracked.rules.openings p.term o c.requires.opening).same_term in
    let cursors = c.may_go_on.new.cursors in
    let f = c.args.fragment in
    let before : AreOver new p.term (base_of o) (count_at p.counts) cursors =
    over_more old new f c.requires.tracked.rules c.guest-rules.ensures.rules more p.term (base_of o) (count_at p.counts) cursors
    (rw (c.key-key.ensures, c.from-from.ensures) at c.may_go_on.ensures.apart)
    (c.may_go_on.ensures.over old p.term (base_of o) (count_at p.counts) (c.requires.tracked.over o c.requires.opening)) in
    let there : pieces_of new p.term f.key.hart f.key.place ≡ One f =
    subst (λ t. pieces_of new t f.key.hart f.key.place ≡ One f) c.requires.here more.there in
    subst (λ t. AreOver new t (base_of o) (count_at p.counts) c.pass.new.cursors) (sym at)
    (c.pass.ensures new p.term (base_of o) (count_at p.counts) f c.guest-rules.ensures.rules
    (record {
      one = rw c.key-key.ensures there;
      from_is = sym c.from-from.ensures;
      to_is = sym c.to-to.ensures;
      meets = λ is. rw c.records.ensures.records at c.are_met-met.ensures is;
    })
    (λ is.
    subst (λ t. pieces_of new t c.key-key.result.hart (c.key-key.result.place + 1) ≡ Absent) (ap (λ (k : Key). k.term) c.key-key.ensures ∙ c.requires.here)
    (c.add-last.ensures.last is new
    (c.add-last.ensures.kept old new (λ k not. more.others k (λ is. not (is ∙ sym c.key-key.ensures))) c.requires.beyond))) before)

pub returns-in_err-put_new-clause-tracked : goal.returns-in_err-put_new-clause-tracked
returns-in_err-put_new-clause-tracked c =
    subst (λ (s : StoreView). IsTracked s c.args.position.now c.args.cursors.now) (sym c.in_err-put_new.ensures.err) c.requires.tracked

pub returns-clause-tracked : goal.returns-clause-tracked
returns-clause-tracked c =
    let old = c.args.store.now in
    let new = c.put_new.new.self in
    let p = c.args.position.now in
    let o = c.args.opening.now in
    let more : HasOneMore old new c.args.fragment = one_more old new c.args.fragment c.requires.new c.in_ok-put_new.ensures.joined in
    let at : o.term ≡ p.term = (c.requires.tracked.rules.openings p.term o c.requires.opening).same_term in
    tracked_here old new c.args.fragment c.requires.tracked.rules c.guest-rules.ensures.rules more p _ c.args.cursors.now c.go_on-position.new.cursors o
    c.requires.opening refl c.go_on-position.ensures.harts
    (subst (λ t. Stops new p.top c.go_on-position.result (count_at c.go_on-position.new.counts) t) at c.go_on-position.ensures.stops)
    c.go_on-position.ensures.over c.requires.tracked

pub returns-then-not-may_go_on-clause-tracked : goal.returns-then-not-may_go_on-clause-tracked
returns-then-not-may_go_on-clause-tracked c =
    let old = c.args.store.now in
    let new = c.put_new.new.self in
    let p = c.args.position.now in
    let cursors = c.may_go_on.new.cursors in
    let more : HasOneMore old new c.args.fragment = one_more old new c.args.fragment c.requires.new c.in_ok-put_new.ensures.joined in
    tracked_apart old new c.args.fragment c.requires.tracked.rules c.guest-rules.ensures.rules more p cursors
    (rw c.key-key.ensures at c.may_go_on.ensures.hart) (rw (c.key-key.ensures, c.from-from.ensures) at c.may_go_on.ensures.apart)
    (rw c.key-key.ensures at c.may_go_on.ensures.ended c.if-not-may_go_on.true)
    (tracked_moved old p c.args.cursors.now cursors c.may_go_on.ensures.over c.requires.tracked)

pub go_on-position-requires-clause-harts : goal.go_on-position-requires-clause-harts
go_on-position-requires-clause-harts c =
    let fits = c.requires.tracked.rules.openings c.args.position.now.term c.args.opening.now c.requires.opening in
    let same = ap (λ (g : GuestParts). g.harts) fits.same_guest in
    c.requires.tracked.harts ∙ sym (fits.rules.base ∙ same)

pub returns-clause-beyond : goal.returns-clause-beyond
returns-clause-beyond c =
    let more : HasOneMore c.args.store.now c.put_new.new.self c.args.fragment =
    one_more c.args.store.now c.put_new.new.self c.args.fragment c.requires.new c.in_ok-put_new.ensures.joined in
    c.add-last.ensures.kept c.args.store.now c.put_new.new.self (λ k not. more.others k (λ is. not (is ∙ sym c.key-key.ensures))) c.requires.beyond

pub returns-then-not-may_go_on-clause-beyond : goal.returns-then-not-may_go_on-clause-beyond
returns-then-not-may_go_on-clause-beyond c =
    let more : HasOneMore c.args.store.now c.put_new.new.self c.args.fragment =
    one_more c.args.store.now c.put_new.new.self c.args.fragment c.requires.new c.in_ok-put_new.ensures.joined in
    c.add-last.ensures.kept c.args.store.now c.put_new.new.self (λ k not. more.others k (λ is. not (is ∙ sym c.key-key.ensures))) c.requires.beyond

pub returns-in_err-put_new-clause-beyond : goal.returns-in_err-put_new-clause-beyond
returns-in_err-put_new-clause-beyond c =
    subst (λ (s : StoreView). AreBeyond s c.args.beyond.now) (sym c.in_err-put_new.ensures.err) c.requires.beyond
