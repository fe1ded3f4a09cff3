use Rattle.std.proofs.Common.{◌≡◌, ◌<◌, length, sym, ap, subst, arith, ◌∙◌}
use Rattle.closed_cut.specs.machinery.Lowering.{AreOf}
use Rattle.closed_cut.proofs.Reach.{all_gathered, base_many, gathered_none, gathered_more, above_base, are_of, is_reached}
use Rattle.closed_cut.proofs.walk.reached.Goals as goal

pub loop-number-init : goal.loop-number-init
loop-number-init c = rw c.new-edges.ensures.items (gathered_none c.args.store.now c.args.opening.now.term c.base-base.result)

pub loop-number-preserved : goal.loop-number-preserved
loop-number-preserved c =
    let below : c.loop-number.number < length c.base-base.result = omega arith in
    rw (c.set.ensures, c.new-hart.ensures)
    (gathered_more c.args.store.now c.args.opening.now.term c.base-base.result c.loop-number.bound c.loop-number.edges.items c.gather.new.edges.items
    c.loop-number.number c.in_ok-end.end below c.loop-number.invariant
    (rw (c.term.ensures, c.get.ensures.value, c.new-hart.ensures) at c.in_ok-end.ensures.gathered))

pub limited-requires : goal.limited-requires
limited-requires c limit is =
    let many : length limit ≡ length c.args.opening.now.base = c.requires.limit_harts limit is in
    let base : length c.base-base.result ≡ length c.args.opening.now.base = ap length c.base-base.ensures.base in
    let bound : length c.loop-number.bound ≡ length c.base-base.result = c.loop-number.invariant.harts in omega arith

pub greatest_closed-requires : goal.greatest_closed-requires
greatest_closed-requires c =
    let base = c.args.opening.now.base in
    let same : length c.base-base.result ≡ length base = ap length c.base-base.ensures.base in
    let all : c.loop-number.number ≡ length base = omega arith in
    let g =
    all_gathered c.args.store.now c.args.opening.now.term base c.base-base.result c.loop-number.bound c.loop-number.edges.items c.loop-number.number
    c.base-base.ensures.base all c.loop-number.invariant in
    subst (λ n. AreOf n c.loop-number.edges.items) (sym (c.limited.ensures.harts ∙ g.harts))
    (are_of c.args.store.now c.requires.rules c.args.opening.now.term base c.loop-number.bound c.loop-number.edges.items
    (base_many c.args.store.now c.args.opening.now c.requires.rules c.requires.opening) g)

pub returns-clause-harts : goal.returns-clause-harts
returns-clause-harts c =
    c.greatest_closed.ensures.harts ∙ (c.limited.ensures.harts ∙ (c.loop-number.invariant.harts ∙ ap length c.base-base.ensures.base))

pub returns-clause-reached : goal.returns-clause-reached
returns-clause-reached c =
    let base = c.args.opening.now.base in
    let same : length c.base-base.result ≡ length base = ap length c.base-base.ensures.base in
    let all : c.loop-number.number ≡ length base = omega arith in
    is_reached c.args.store.now c.requires.rules c.args.opening.now.term base c.loop-number.bound c.loop-number.edges.items
    (base_many c.args.store.now c.args.opening.now c.requires.rules c.requires.opening)
    (all_gathered c.args.store.now c.args.opening.now.term base c.base-base.result c.loop-number.bound c.loop-number.edges.items c.loop-number.number
    c.base-base.ensures.base all c.loop-number.invariant)
    c.args.limit c.limited.result c.greatest_closed.result c.limited.ensures
    (above_base base c.args.limit c.requires.limit) c.greatest_closed.ensures.greatest
