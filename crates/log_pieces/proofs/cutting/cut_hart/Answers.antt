use Rattle.std.proofs.Common.{◌+◌, ◌<◌, ◌^◌, [], ◌∷◌, ◌++◌, length, slice_index, arith, refl, ap, ◌∙◌, inl, inr, length-set}
use Rattle.std.proofs.lemmas.Bool.{cases_lt, false≢true}
use Rattle.fragment_codec.specs.declared.frame.Frame.TheVariants.{Log}
use Rattle.log_pieces.specs.Pieces.{mark_of}
use Rattle.log_pieces.proofs.cuts.Chunks.{so_far_none, order_left, end_inside, rules_of_part, so_far_more, so_far_all}
use Rattle.log_pieces.proofs.cutting.cut_hart.Goals as goal

pub loop-from-init : goal.loop-from-init
loop-from-init c = so_far_none _ _ _ _ _ c.requires.may c.reached-from.ensures.value

pub split_below-requires : goal.split_below-requires
split_below-requires c = (order_left c.requires.may c.loop-from.invariant).order

pub piece_of-requires : goal.piece_of-requires
piece_of-requires c =
    let below = c.in-Some.ensures.exact.0 refl in
    let place = c.in-Some.ensures.place in
    rules_of_part c.requires.may c.loop-from.invariant c.loop-from-test.true c.end_of_piece-to.ensures c.split_below.ensures.below c.in-Some.place (omega arith)

pub advance-requires-clause-hart : goal.advance-requires-clause-hart
advance-requires-clause-hart c = let same = c.loop-from.invariant.same_harts in omega (arith, c.requires.there)

pub advance-requires-clause-count : goal.advance-requires-clause-count
advance-requires-clause-count c =
    let inside = end_inside c.requires.may c.loop-from.invariant c.loop-from-test.true c.end_of_piece-to.ensures c.split_below.ensures.below in
    let end = c.requires.may.end in
    omega (arith, inside.1)

pub loop-from-smaller : goal.loop-from-smaller
loop-from-smaller c =
    let inside = end_inside c.requires.may c.loop-from.invariant c.loop-from-test.true c.end_of_piece-to.ensures c.split_below.ensures.below in
    omega (arith, inside.0, inside.1)

pub loop-from-preserved : goal.loop-from-preserved
loop-from-preserved c =
    let below = c.in-Some.ensures.exact.0 refl in
    let place = c.in-Some.ensures.place in
    let there : c.args.origin.now.hart < length c.loop-from.sealed.places =
    (let own = c.requires.may.own in let few = c.requires.may.guest.limit in omega (
      arith,
      c.advance.ensures.many,
      ap length c.advance.ensures.places,
      length-set c.loop-from.sealed.places c.args.origin.now.hart (slice_index c.loop-from.sealed.places c.args.origin.now.hart + 1),
    )) in
    so_far_more c.requires.may c.loop-from.invariant c.loop-from-test.true c.end_of_piece-to.ensures c.split_below.ensures.below c.advance.new.self
    c.push.new.self.items
    c.split_below.result.1.now c.in-Some.place place (omega arith)
    (c.in_ok-push.ensures.items ∙ ap (λ f. c.loop-from.frames.items ++ Log f ∷ []) c.in_ok-piece.ensures)
    (record {
      places = c.advance.ensures.places;
      reached = c.advance.ensures.reached;
      there = there;
      known = (let same = c.loop-from.invariant.same_harts in
          omega (arith, c.requires.there));
    })
    c.split_below.ensures.behind

pub returns-after-loop-from : goal.returns-after-loop-from
returns-after-loop-from c = so_far_all _ _ _ _ _ _ _ _ c.loop-from.invariant (inl c.loop-from-test.false)

pub returns-in_default : goal.returns-in_default
returns-in_default c =
    let limit = c.in_default.ensures.limit in
    so_far_all _ _ _ _ _ _ _ _ c.loop-from.invariant
    (inr
    (elim (cases_lt (mark_of c.loop-from.sealed c.args.origin.now.hart).place (2 ^ 32)) [
      | inl below ↦ absurd (false≢true (c.in_default.ensures.exact.1 below))
      | inr full ↦ omega (arith, limit, full)
    ]))
