use Rattle.std.proofs.Common.{◌≡◌, ◌<◌, ◌≤◌, ◌++◌, ◌∷◌, [], ℕ, List, rules, length, get_or, map, take, refl, ap, sym, subst, ◌∙◌, arith}
use Rattle.std.proofs.lemmas.List.{map-append, take_all}
use Rattle.std.proofs.lemmas.List.Elements.{Contains-get_or}
use Rattle.std.proofs.lemmas.Option.{slice_get_read}
use Rattle.std.proofs.lemmas.Result.{err_from_is_err_and}
use Rattle.go_live.proofs.Distinct.{HasThese, member_more, counted_below}
use Rattle.live_world.specs.Renewals.{AreGifts, IsNoNewLog, givers_of}
use Rattle.live_world.specs.declared.fault.EventFault.{EventFault}
use Rattle.live_world.proofs.Gifts.{SoFar, one_more}
use Rattle.live_world.proofs.Renewed.{no_gift}
use Rattle.live_world.proofs.renewal.other_logs.Goals as goal

pub loop-number-preserved : goal.loop-number-preserved
loop-number-preserved c =
    let within : c.loop-number.number-index < length c.args.numbers.now = omega arith in
    let below : get_or c.args.numbers.now c.loop-number.number-index 0 < length c.args.handed.now = omega arith in
    let so_far = c.loop-number.invariant in
    let other = c.in_ok-other.other in
    let fewer = c.with-givers.ensures.below in
    let has : HasThese (givers_of so_far.gifts ++ other.giver ∷ []) c.with-givers.result =
    rw c.with-givers.ensures.value (member_more (givers_of so_far.gifts) other.giver c.loop-number.givers (omega (arith, fewer)) so_far.has) in
    let logs : map (λ log. log.items) c.push_reserved.new.self.items ≡ map (λ log. log.items) c.loop-number.logs.items ++ other.frames.items ∷ [] =
    ap (map (λ log. log.items)) (c.push_reserved.ensures.items ∙ ap (λ all. all ++ other.frames ∷ []) c.in_ok-make_room.ensures.same)
    ∙ map-append (λ log. log.items) c.loop-number.logs.items (other.frames ∷ []) in
    one_more c.args.guest c.args.keeper c.args.term c.args.handed.now c.args.numbers.now c.loop-number.number-index c.index-handed-number.result other.giver
    other.frames.items c.loop-number.givers c.with-givers.result (map (λ log. log.items) c.loop-number.logs.items)
    (map (λ log. log.items) c.push_reserved.new.self.items) within
    (slice_get_read c.args.handed.now (length c.args.handed.now) (get_or c.args.numbers.now c.loop-number.number-index 0) c.index-handed-number.result refl
    below c.index-handed-number.is) so_far c.in_ok-other.ensures.log has logs

pub returns-in_err-other-clause-refused : goal.returns-in_err-other-clause-refused
returns-in_err-other-clause-refused c =
    let within : c.loop-number.number-index < length c.args.numbers.now = omega arith in
    let below : get_or c.args.numbers.now c.loop-number.number-index 0 < length c.args.handed.now = omega arith in
    let e = err_from_is_err_and c.from_residual.result c.from_residual.ensures.1 in
    rw (e.1)
    (subst (λ (f : EventFault). IsNoNewLog c.args.guest c.args.quorum c.args.keeper c.args.term c.args.handed.now c.args.numbers.now f) (sym e.2)
    (no_gift c.args.guest c.args.quorum c.args.keeper c.args.term c.args.handed.now c.args.numbers.now
    (get_or c.args.numbers.now c.loop-number.number-index 0) c.index-handed-number.result
    (Contains-get_or c.args.numbers.now c.loop-number.number-index 0 within)
    (slice_get_read c.args.handed.now (length c.args.handed.now) (get_or c.args.numbers.now c.loop-number.number-index 0) c.index-handed-number.result refl
    below c.index-handed-number.is) c.in_err-other.field-0.0 c.in_err-other.ensures.refused))

pub returns-in_err-look_enough-clause-refused : goal.returns-in_err-look_enough-clause-refused
returns-in_err-look_enough-clause-refused c =
    let so_far = c.loop-number.invariant in
    let all : take c.loop-number.number-index c.args.numbers.now ≡ c.args.numbers.now = take_all c.loop-number.number-index c.args.numbers.now (omega arith) in
    let sized = so_far.has.sized in
    let five : c.args.quorum.keepers ≤ 5 = search rules in
    let counted = counted_below c.loop-number.givers (givers_of so_far.gifts) so_far.has.members c.args.quorum.keepers (omega (arith, sized, five)) in
    let e = err_from_is_err_and c.from_residual-in_err-look_enough.result c.from_residual-in_err-look_enough.ensures.1 in
    let (few, not) = c.in_err-look_enough.ensures.few in
    rw (e.1)
    (subst (λ (f : EventFault). IsNoNewLog c.args.guest c.args.quorum c.args.keeper c.args.term c.args.handed.now c.args.numbers.now f) (sym (e.2 ∙ few)) (
      so_far.gifts,
      subst (λ (numbers : List ℕ). AreGifts c.args.guest c.args.keeper c.args.term c.args.handed.now numbers so_far.gifts) all so_far.are,
      λ enough. not (omega (arith, counted, enough)),
    ))

pub returns-clause-logs : goal.returns-clause-logs
returns-clause-logs c =
    let so_far = c.loop-number.invariant in
    let all : take c.loop-number.number-index c.args.numbers.now ≡ c.args.numbers.now = take_all c.loop-number.number-index c.args.numbers.now (omega arith) in
    let sized = so_far.has.sized in
    let five : c.args.quorum.keepers ≤ 5 = search rules in
    let counted = counted_below c.loop-number.givers (givers_of so_far.gifts) so_far.has.members c.args.quorum.keepers (omega (arith, sized, five)) in
    let enough = c.in_ok-look_enough.ensures.enough in
    record {
      gifts = so_far.gifts;
      are = subst (λ (numbers : List ℕ). AreGifts c.args.guest c.args.keeper c.args.term c.args.handed.now numbers so_far.gifts) all so_far.are;
      enough = omega (arith, counted, enough);
      of_gifts = so_far.are_logs;
    }
