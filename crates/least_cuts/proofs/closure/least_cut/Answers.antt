use Rattle.std.proofs.Common.{ℕ, length, arith, refl, sym, subst}
use Rattle.hart_replay.specs.Plans.{IsLeg}
use Rattle.least_cuts.proofs.Raised.{way_begins, way_more, way_done}
use Rattle.least_cuts.proofs.closure.least_cut.Goals as goal

pub set-requires-clause-count : goal.set-requires-clause-count
set-requires-clause-count c =
    let limit = c.count_of-end.ensures.limit in
    let is = c.count_of-end.ensures.value in
    let le = c.requires.end in
    omega (arith, limit, is, le)

pub loop-cut-init : goal.loop-cut-init
loop-cut-init c =
    rw c.set.ensures (way_begins c.args.leg.now c.requires.leg c.args.hart c.args.count c.requires.hart c.requires.from c.requires.end)

pub raise_all-requires-clause-leg : goal.raise_all-requires-clause-leg
raise_all-requires-clause-leg c = subst (λ (many : ℕ). IsLeg many c.args.leg.now) (sym c.loop-cut.invariant.harts) c.requires.leg

pub raise_all-requires-clause-within : goal.raise_all-requires-clause-within
raise_all-requires-clause-within c = c.loop-cut.invariant.within

pub returns-then-not-raise_all : goal.returns-then-not-raise_all
returns-then-not-raise_all c =
    way_done c.args.leg.now c.requires.leg c.args.hart c.args.count c.loop-cut.cut c.raise_all.new.cut c.raise_all.result (length c.loop-cut.cut)
    c.if-not-raise_all.true refl c.loop-cut.invariant c.raise_all.ensures.raises

pub loop-cut-preserved : goal.loop-cut-preserved
loop-cut-preserved c =
    (way_more c.args.leg.now c.requires.leg c.args.hart c.args.count c.loop-cut.cut c.raise_all.new.cut c.raise_all.result (length c.loop-cut.cut)
    c.if-not-raise_all.false c.loop-cut.invariant c.raise_all.ensures.raises).0

pub loop-cut-smaller : goal.loop-cut-smaller
loop-cut-smaller c =
    (way_more c.args.leg.now c.requires.leg c.args.hart c.args.count c.loop-cut.cut c.raise_all.new.cut c.raise_all.result (length c.loop-cut.cut)
    c.if-not-raise_all.false c.loop-cut.invariant c.raise_all.ensures.raises).1
