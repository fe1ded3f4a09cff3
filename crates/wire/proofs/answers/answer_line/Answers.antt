use Rattle.std.specs.Prelude.{decimal}
use Rattle.ft_types.specs.Text.{word}
use Rattle.wire.proofs.AnswerFields.{answer_spelled}
use Rattle.wire.proofs.answers.answer_line.Goals as goal

pub returns : goal.returns
returns c =
    let answer = c.args.answer.now in
    rw (
      c.push-2.ensures.bytes,
      c.push_word.ensures.bytes,
      c.push_field-4.ensures.bytes,
      c.push_number-4.ensures.bytes,
      c.push_field-3.ensures.bytes,
      c.push_number-3.ensures.bytes,
      c.push_field-2.ensures.bytes,
      c.push_number-2.ensures.bytes,
      c.push_field.ensures.bytes,
      c.push_number.ensures.bytes,
      c.push.ensures.bytes,
      c.new-text.ensures,
      c.from.ensures,
      c.from-2.ensures,
      c.number.ensures.value,
    ) (answer_spelled (decimal answer.term) (decimal answer.output.hart) (decimal answer.output.number) (decimal answer.output.step)
    (word answer.output.word))
