use Rattle.std.proofs.Common.{◌≡◌, ◌<◌, sym, ◌∙◌, arith}
use Rattle.closed_cut.proofs.Chains.{term_above}
use Rattle.tracked_position.proofs.Legs.{from_top, next_down, none_below, found_child}
use Rattle.tracked_position.proofs.taking.child.Goals as goal

pub loop-opening-init : goal.loop-opening-init
loop-opening-init c = from_top c.args.store.now c.args.top c.args.term

pub returns-then-parent-term-clause-some : goal.returns-then-parent-term-clause-some
returns-then-parent-term-clause-some c =
    found_child c.args.store.now c.requires c.args.top c.args.term c.loop-opening.now c.in-Some.opening.now c.in-Some.ensures.one
    (sym c.parent.ensures ∙ c.if-parent-term.true) c.loop-opening.invariant

pub loop-opening-smaller : goal.loop-opening-smaller
loop-opening-smaller c =
    let less : c.in-Some.opening.now.parent < c.loop-opening.now =
    (term_above c.args.store.now c.loop-opening.now c.in-Some.opening.now c.requires c.in-Some.ensures.one).0 in
    let is : c.parent-now.result ≡ c.in-Some.opening.now.parent = c.parent-now.ensures in
    omega arith

pub loop-opening-preserved : goal.loop-opening-preserved
loop-opening-preserved c =
    rw c.parent-now.ensures
    (next_down c.args.store.now c.args.top c.args.term c.loop-opening.now c.in-Some.opening.now c.in-Some.ensures.one
    (λ same. c.if-parent-term.false (c.parent.ensures ∙ same)) c.loop-opening.invariant)

pub returns-clause-none : goal.returns-clause-none
returns-clause-none c =
    none_below c.args.store.now c.args.top c.args.term c.loop-opening.now c.in_default.ensures.none c.loop-opening.invariant
