use Rattle.std.proofs.Common.{◌≡◌, [], ◌∷◌, reverse, sym, subst, arith, ◌∙◌}
use Rattle.std.proofs.lemmas.List.{reverse-append}
use Rattle.log_join.specs.Cells.{One}
use Rattle.log_join.specs.Stores.{opening_at}
use Rattle.closed_cut.proofs.Chains.{term_above}
use Rattle.hart_replay.proofs.walking.Made.{made_none, made_more}
use Rattle.hart_replay.proofs.planning.legs_to.Goals as goal

pub loop-opening-init : goal.loop-opening-init
loop-opening-init c = rw c.new-legs.ensures.items (made_none c.args.store.now c.args.position.now c.requires)

pub leg_to-requires-clause-opening : goal.leg_to-requires-clause-opening
leg_to-requires-clause-opening c =
    let o = c.in-Some.opening.now in
    subst (λ t. opening_at c.args.store.now t ≡ One o) (sym (c.in-Some.ensures.rules.openings c.loop-opening.term o c.in-Some.ensures.one).same_term)
    c.in-Some.ensures.one

pub loop-opening-preserved : goal.loop-opening-preserved
loop-opening-preserved c =
    let store = c.args.store.now in
    let o = c.in-Some.opening.now in
    let term = c.loop-opening.term in
    let leg = c.in_ok-leg_to.field-0 in
    let at = c.in_ok-leg_to.ensures in
    let legs = reverse c.loop-opening.legs.items in
    let same = (c.in-Some.ensures.rules.openings term o c.in-Some.ensures.one).same_term in
    rw (c.in_ok-push.ensures.items, reverse-append c.loop-opening.legs.items (leg ∷ []), c.parent-term.ensures, c.base-ends.ensures.base)
    (made_more store c.in-Some.ensures.rules c.args.position.now c.requires legs term c.loop-opening.ends c.loop-opening.invariant o c.in-Some.ensures.one leg
    (at.term ∙ same) at.base at.ends at.start at.edges at.inputs at.marks)

pub loop-opening-smaller : goal.loop-opening-smaller
loop-opening-smaller c =
    let above = term_above c.args.store.now c.loop-opening.term c.in-Some.opening.now c.opening_of.ensures.rules c.in-Some.ensures.one in
    let parent = c.parent-term.ensures in omega (arith, above.0)

pub returns-clause-inputs : goal.returns-clause-inputs
returns-clause-inputs c = rw c.reverse.ensures.items c.loop-opening.invariant.inputs

pub returns-clause-cuts : goal.returns-clause-cuts
returns-clause-cuts c = rw c.reverse.ensures.items c.loop-opening.invariant.inside

pub returns-clause-marks : goal.returns-clause-marks
returns-clause-marks c = rw c.reverse.ensures.items c.loop-opening.invariant.marks
