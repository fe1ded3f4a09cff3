use Rattle.std.proofs.Common.{◌≡◌, ◌≤◌, ◌<◌, ◌-◌, length, Some, None, true≢false, le_of_eq, sym, ap, subst, ◌∙◌, arith}
use Rattle.ft_types.specs.Counts.{count_at}
use Rattle.closed_cut.specs.Position.{base_of}
use Rattle.closed_cut.proofs.Chains.{term_above}
use Rattle.closed_cut.proofs.Reach.{base_many}
use Rattle.tracked_position.specs.machinery.Cuts.{IsGreatestCut}
use Rattle.tracked_position.specs.machinery.Legs.{IsChild, IsNext}
use Rattle.tracked_position.proofs.Legs.{next_is, next_many, chain_bound, leg_start, leg_last, leg_short, leg_on}
use Rattle.tracked_position.proofs.taking.go_on.Goals as goal

pub reach-requires-clause-limit : goal.reach-requires-clause-limit
reach-requires-clause-limit c x is =
    let s = c.args.store.now in
    let now = c.loop-next.now.now in
    let next : IsNext s c.args.top c.term.result c.base_of_next-limit.result =
    next_is (λ o. o.now) s c.args.top c.term.result c.child-next.result c.base_of_next-limit.result c.base_of_next-limit.ensures.some
    c.base_of_next-limit.ensures.none c.child-next.ensures.some c.child-next.ensures.none in
    next_many s c.requires.rules c.args.top c.term.result c.base_of_next-limit.result next x is ∙
    sym (c.loop-next.invariant.harts ∙ base_many s now c.requires.rules c.loop-next.invariant.opens)

pub reach-requires-clause-cut : goal.reach-requires-clause-cut
reach-requires-clause-cut c =
    let s = c.args.store.now in
    let next : IsNext s c.args.top c.term.result c.base_of_next-limit.result =
    next_is (λ o. o.now) s c.args.top c.term.result c.child-next.result c.base_of_next-limit.result c.base_of_next-limit.ensures.some
    c.base_of_next-limit.ensures.none c.child-next.ensures.some c.child-next.ensures.none in
    c.loop-next.invariant.cut c.base_of_next-limit.result (subst (λ t. IsNext s c.args.top t c.base_of_next-limit.result) c.term.ensures next)

pub returns-in_default-clause-stops : goal.returns-in_default-clause-stops
returns-in_default-clause-stops c =
    let s = c.args.store.now in
    let now = c.loop-next.now.now in
    let none : c.base_of_next-limit.result ≡ None = rw c.in_default.is at c.base_of_next-limit.ensures.none in
    let g : IsGreatestCut s now.term (base_of now) None (count_at c.reach.new.cut) = rw none at c.reach.ensures.greatest in
    rw c.term-in_default.ensures
    (c.loop-next.invariant.on now.term (count_at c.reach.new.cut)
    (leg_last s c.requires.rules c.args.top now c.loop-next.invariant.opens (count_at c.reach.new.cut) c.loop-next.invariant.in_chain
    (rw c.term.ensures at c.in_default.ensures.none) g))

pub within-requires : goal.within-requires
within-requires c =
    let s = c.args.store.now in
    let now = c.loop-next.now.now in
    let next = c.in-Some.next.now in
    let child : IsChild s c.args.top now.term next = rw c.term.ensures at c.in-Some.ensures.some in
    rw c.base.ensures.base
    (base_many s next c.requires.rules child.opens ∙
    sym (c.reach.ensures.harts ∙ (c.loop-next.invariant.harts ∙ base_many s now c.requires.rules c.loop-next.invariant.opens)))

pub returns-then-not-within-clause-stops : goal.returns-then-not-within-clause-stops
returns-then-not-within-clause-stops c =
    let s = c.args.store.now in
    let now = c.loop-next.now.now in
    let next = c.in-Some.next.now in
    let child : IsChild s c.args.top now.term next = rw c.term.ensures at c.in-Some.ensures.some in
    let some : c.base_of_next-limit.result ≡ Some next.base = rw c.in-Some.is at c.base_of_next-limit.ensures.some in
    let g : IsGreatestCut s now.term (base_of now) (Some (base_of next)) (count_at c.reach.new.cut) = rw some at c.reach.ensures.greatest in
    rw c.term-then-not-within.ensures
    (c.loop-next.invariant.on now.term (count_at c.reach.new.cut)
    (leg_short s c.requires.rules c.args.top now c.loop-next.invariant.opens next child (count_at c.reach.new.cut) g
    (λ same. true≢false (sym (c.within.ensures.1 (λ h. rw c.base.ensures.base (le_of_eq (sym (same h))))) ∙ c.if-not-within.true))))

pub loop-next-smaller : goal.loop-next-smaller
loop-next-smaller c =
    let s = c.args.store.now in
    let now = c.loop-next.now.now in
    let next = c.in-Some.next.now in
    let child : IsChild s c.args.top now.term next = rw c.term.ensures at c.in-Some.ensures.some in
    let parent : next.parent ≡ now.term = child.parent in
    let above : next.parent < next.term = (term_above s next.term next c.requires.rules child.opens).0 in
    let le : next.term ≤ c.args.top = chain_bound s c.requires.rules next.term child.in_chain in
    let less : c.args.top - next.term < c.args.top - now.term = omega arith in
    less

pub loop-next-preserved : goal.loop-next-preserved
loop-next-preserved c =
    let s = c.args.store.now in
    let now = c.loop-next.now.now in
    let next = c.in-Some.next.now in
    let child : IsChild s c.args.top now.term next = rw c.term.ensures at c.in-Some.ensures.some in
    let some : c.base_of_next-limit.result ≡ Some next.base = rw c.in-Some.is at c.base_of_next-limit.ensures.some in
    let g : IsGreatestCut s now.term (base_of now) (Some (base_of next)) (count_at c.reach.new.cut) = rw some at c.reach.ensures.greatest in
    let same : c.base-in-loop-next.result ≡ next.base = c.base-in-loop-next.ensures.base in
    record {
      long =
          ap length same ∙
          (base_many s next c.requires.rules child.opens ∙
          sym (sym c.loop-next.invariant.long ∙ (c.loop-next.invariant.harts ∙ base_many s now c.requires.rules c.loop-next.invariant.opens)));
      opens = child.opens;
      in_chain = child.in_chain;
      harts = ap length same;
      cut = λ limit after. rw same (leg_start s c.requires.rules c.args.top next child.opens c.requires.sound limit after);
      over = rw c.term-in-loop-next.ensures at c.begin.ensures next (count_at c.base-in-loop-next.result) child.opens;
      on =
          λ to cut stops.
          c.loop-next.invariant.on to cut
          (leg_on s c.requires.rules c.args.top now c.loop-next.invariant.opens next child (count_at c.reach.new.cut) g to cut
          (rw c.base.ensures.base at c.within.ensures.0 c.if-not-within.false) stops);
    }
