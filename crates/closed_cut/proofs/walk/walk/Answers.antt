use Rattle.std.proofs.Common.{◌≡◌, ◌+◌, ◌≤◌, drop, Some, refl, true≢false, le_of_eq, sym, subst, arith, ◌∙◌}
use Rattle.std.proofs.lemmas.List.{drop_all}
use Rattle.ft_types.specs.Counts.{count_at, IsWithin}
use Rattle.closed_cut.specs.Chain.{LeadsTo}
use Rattle.closed_cut.specs.Position.{base_of, IsReached, Last, Short, On}
use Rattle.closed_cut.proofs.Chains.{next_of, next_within, leads_in_chain}
use Rattle.closed_cut.proofs.Reach.{base_many}
use Rattle.closed_cut.proofs.walk.walk.Goals as goal

pub reached-requires-clause-limit : goal.reached-requires-clause-limit
reached-requires-clause-limit c x is h =
    let now = c.loop-term.now.now in
    let next = c.in-Some.next.now in
    let n = next_of c.args.store.now now next c.args.rest.now c.loop-term.term-index c.args.top c.requires.rules (omega arith) c.loop-term.invariant.leads
    c.in-Some.ensures.one in
    let within : count_at now.base h ≤ count_at next.base h =
    next_within c.args.store.now now.term next.term now next (drop (c.loop-term.term-index + 1) c.args.rest.now) c.args.top c.requires.rules
    c.loop-term.invariant.opens n.opens n.parent
    n.leads c.requires.sound h in
    let same : c.base.result ≡ x = cc in
    rw (← same, c.base.ensures.base) within

pub reached-requires-clause-limit_harts : goal.reached-requires-clause-limit_harts
reached-requires-clause-limit_harts c x is =
    let now = c.loop-term.now.now in
    let next = c.in-Some.next.now in
    let n = next_of c.args.store.now now next c.args.rest.now c.loop-term.term-index c.args.top c.requires.rules (omega arith) c.loop-term.invariant.leads
    c.in-Some.ensures.one in
    let same : c.base.result ≡ x = cc in
    rw (← same, c.base.ensures.base)
    (base_many c.args.store.now next c.requires.rules n.opens ∙ sym (base_many c.args.store.now now c.requires.rules c.loop-term.invariant.opens))

pub returns-then-not-within-clause-harts : goal.returns-then-not-within-clause-harts
returns-then-not-within-clause-harts c =
    c.in_ok-counts.ensures.harts ∙ base_many c.args.store.now c.loop-term.now.now c.requires.rules c.loop-term.invariant.opens

pub returns-then-not-within-clause-stops : goal.returns-then-not-within-clause-stops
returns-then-not-within-clause-stops c =
    let store = c.args.store.now in
    let now = c.loop-term.now.now in
    let next = c.in-Some.next.now in
    let n = next_of store now next c.args.rest.now c.loop-term.term-index c.args.top c.requires.rules (omega arith) c.loop-term.invariant.leads
    c.in-Some.ensures.one in
    rw c.term.ensures
    (c.loop-term.invariant.on now.term (count_at c.in_ok-counts.counts)
    (Short now next next.term c.loop-term.invariant.opens n.opens n.parent
    (leads_in_chain store next.term (drop (c.loop-term.term-index + 1) c.args.rest.now) c.args.top n.leads) refl
    (rw c.base.ensures.base at c.in_ok-counts.ensures.reached) (λ same. true≢false
    (sym (c.within.ensures.1 (λ h. rw c.base-in-loop-term.ensures.base (le_of_eq (sym (same h))))) ∙ c.if-not-within.true))))

pub loop-term-preserved : goal.loop-term-preserved
loop-term-preserved c =
    let store = c.args.store.now in
    let now = c.loop-term.now.now in
    let next = c.in-Some.next.now in
    let n = next_of store now next c.args.rest.now c.loop-term.term-index c.args.top c.requires.rules (omega arith) c.loop-term.invariant.leads
    c.in-Some.ensures.one in
    let reached : IsReached store now.term (base_of now) (Some (base_of next)) (count_at c.in_ok-counts.counts) =
    rw c.base.ensures.base at c.in_ok-counts.ensures.reached in
    let within : IsWithin next.base c.in_ok-counts.counts = rw c.base-in-loop-term.ensures.base at (c.within.ensures.0 c.if-not-within.false) in
    record {
      opens = n.opens;
      leads = n.leads;
      on =
          λ term cut stops.
          c.loop-term.invariant.on term cut
          (On now next next.term (count_at c.in_ok-counts.counts) c.loop-term.invariant.opens n.opens n.parent
          (leads_in_chain store next.term (drop (c.loop-term.term-index + 1) c.args.rest.now) c.args.top n.leads)
          reached
          (λ h. let le : count_at c.in_ok-counts.counts h ≤ count_at next.base h = reached.fits.before_next h in let ge : count_at next.base h ≤ count_at
          c.in_ok-counts.counts h = within h in omega arith) stops);
    }

pub returns-clause-harts : goal.returns-clause-harts
returns-clause-harts c =
    c.in_ok-counts-2.ensures.harts ∙ base_many c.args.store.now c.loop-term.now.now c.requires.rules c.loop-term.invariant.opens

pub returns-clause-stops : goal.returns-clause-stops
returns-clause-stops c =
    let now = c.loop-term.now.now in
    let last : now.term ≡ c.args.top =
    subst (λ l. LeadsTo c.args.store.now now.term l c.args.top) (drop_all c.loop-term.term-index c.args.rest.now (omega arith)) c.loop-term.invariant.leads in
    rw c.term-2.ensures
    (c.loop-term.invariant.on now.term (count_at c.in_ok-counts-2.counts)
    (Last now c.loop-term.invariant.opens last refl c.in_ok-counts-2.ensures.reached))

pub within-requires : goal.within-requires
within-requires c =
    let now = c.loop-term.now.now in
    let next = c.in-Some.next.now in
    let n = next_of c.args.store.now now next c.args.rest.now c.loop-term.term-index c.args.top c.requires.rules (omega arith) c.loop-term.invariant.leads
    c.in-Some.ensures.one in
    rw c.base-in-loop-term.ensures.base
    (base_many c.args.store.now next c.requires.rules n.opens ∙
    (sym (base_many c.args.store.now now c.requires.rules c.loop-term.invariant.opens) ∙ sym c.in_ok-counts.ensures.harts))
