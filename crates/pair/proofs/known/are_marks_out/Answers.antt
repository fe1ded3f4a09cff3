use Rattle.std.proofs.Common.{◌≡◌, ◌<◌, ◌≤◌, ⊎_elim, ℕ, length, slice_index, arith, subst, sym}
use Rattle.std.proofs.lemmas.Bool.{cases_lt}
use Rattle.std.proofs.lemmas.List.{get_or_past}
use Rattle.ft_types.specs.Counts.{count_at}
use Rattle.pair.proofs.GoneOut.{within_more}
use Rattle.pair.proofs.known.are_marks_out.Goals as goal

pub loop-number-init : goal.loop-number-init
loop-number-init c = λ hart below. absurd (omega (arith, below))

pub loop-number-preserved : goal.loop-number-preserved
loop-number-preserved c =
    within_more c.args.marks.now c.first_ones-many.result c.loop-number.number c.loop-number.invariant
    (subst (λ (h : ℕ). count_at c.args.marks.now h ≤ slice_index c.first_ones-many.result h) c.new-hart.ensures
    (subst (λ (p : ℕ). count_at c.args.marks.now c.new-hart.result ≤ slice_index c.first_ones-many.result p) c.index.ensures.value
    (omega (arith, c.if-get-many.false, c.get.ensures.value))))

pub returns : goal.returns
returns c = λ yes hart number below.
    let over = c.loop-number-test.false in
    let harts = c.harts-number-end.ensures.value in
    let few : count_at c.args.marks.now hart ≤ slice_index c.first_ones-many.result hart = ⊎_elim
    (λ (lt : hart < length c.args.marks.now). c.loop-number.invariant hart (omega (arith, lt, over, harts)))
    (λ (le : length c.args.marks.now ≤ hart). (let none : count_at c.args.marks.now hart ≡ 0 = get_or_past c.args.marks.now hart 0 le in omega (arith, none)))
    (cases_lt hart (length c.args.marks.now)) in
    c.first_ones-many.ensures hart number (omega (arith, few, below))
