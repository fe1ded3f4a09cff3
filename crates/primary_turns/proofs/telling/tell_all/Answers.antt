use Rattle.std.proofs.Common.{◌<◌, ◌+◌, length, map, take, arith}
use Rattle.primary_turns.specs.declared.deeds.Deed.TheVariants.{Tell}
use Rattle.primary_turns.proofs.Adding.{noted_more, one_more}
use Rattle.primary_turns.proofs.Taken.{taken_more}
use Rattle.primary_turns.proofs.telling.tell_all.Goals as goal

pub loop-answer-preserved : goal.loop-answer-preserved
loop-answer-preserved c =
    let answers = c.args.answers.now in
    let i = c.loop-answer.answer-index in
    let answer = c.answer-item.result in
    let within : i < length answers = omega arith in
    let more = taken_more Tell answers i answer within c.answer-item.is in
    let so_far = take i (map Tell answers) in
    let new = take (i + 1) (map Tell answers) in (
      one_more c.args.deeds.now.items c.loop-answer.deeds.items c.tell.new.deeds.items so_far new (Tell answer) c.loop-answer.invariant.0
          c.in_ok-tell.ensures.deeds more,
      noted_more c.args.told.now c.loop-answer.told c.tell.new.told so_far new (Tell answer) c.loop-answer.invariant.1 c.in_ok-tell.ensures.told more,
    )
