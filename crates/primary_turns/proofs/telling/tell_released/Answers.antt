use Rattle.std.proofs.Common.{◌<◌, ◌≤◌, ◌+◌, ◌++◌, ◌∙◌, List, length, map, take, ap, arith}
use Rattle.std.proofs.lemmas.List.{length-map, take_all}
use Rattle.primary_turns.specs.Deeds.{noted}
use Rattle.primary_turns.specs.declared.deeds.Deed.{Deed}
use Rattle.primary_turns.proofs.Adding.{noted_more, one_more, tells_each, told_one}
use Rattle.primary_turns.proofs.Taken.{taken_more}
use Rattle.primary_turns.proofs.telling.tell_released.Goals as goal

pub loop-one-preserved : goal.loop-one-preserved
loop-one-preserved c =
    let released = c.args.released.now in
    let deed = told_one c.args.term in
    let i = c.loop-one.one-index in
    let one = c.one-item.result in
    let within : i < length released = omega arith in
    let more = taken_more deed released i one within c.one-item.is in
    let so_far = take i (map deed released) in
    let new = take (i + 1) (map deed released) in (
      one_more c.args.deeds.now.items c.loop-one.deeds.items c.tell.new.deeds.items so_far new (deed one) c.loop-one.invariant.0 c.in_ok-tell.ensures.deeds more,
      noted_more c.args.told.now c.loop-one.told c.tell.new.told so_far new (deed one) c.loop-one.invariant.1 c.in_ok-tell.ensures.told more,
    )

pub returns-clause-deeds : goal.returns-clause-deeds
returns-clause-deeds c =
    let all = map (told_one c.args.term) c.args.released.now in
    let i = c.loop-one.one-index in
    let behind : length all ≤ i = rw length-map (omega arith) in
    c.loop-one.invariant.0 ∙ ap (λ (ds : List Deed). c.args.deeds.now.items ++ ds) (take_all i all behind ∙ tells_each c.args.term c.args.released.now)

pub returns-clause-told : goal.returns-clause-told
returns-clause-told c =
    let all = map (told_one c.args.term) c.args.released.now in
    let i = c.loop-one.one-index in
    let behind : length all ≤ i = rw length-map (omega arith) in
    c.loop-one.invariant.1 ∙ ap (noted c.args.told.now) (take_all i all behind ∙ tells_each c.args.term c.args.released.now)
