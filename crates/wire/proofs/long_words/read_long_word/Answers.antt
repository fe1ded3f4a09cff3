use Rattle.std.proofs.Common.{◌/◌, ◌%◌, ◌^◌, length, ap, arith}
use Rattle.wire.proofs.Reading.{if_none}
use Rattle.wire.proofs.PairFields.{long_word_length, halves}
use Rattle.wire.proofs.long_words.read_long_word.Goals as goal

pub returns-then-text-ne16-clause-none : goal.returns-then-text-ne16-clause-none
returns-then-text-ne16-clause-none c = λ w is. omega (arith, c.if-text-ne16.true, ap length is.1, long_word_length w)

pub returns-in_err-upper-clause-none : goal.returns-in_err-upper-clause-none
returns-in_err-upper-clause-none c = if_none c.from_residual.result _ (λ w is.
    let parts = halves c.args.text.now c.split_at.result.0.now c.split_at.result.1.now w c.split_at.ensures.front c.split_at.ensures.back
    (omega (arith, c.split_at.ensures.back_len, c.if-text-ne16.false)) is in
    c.in_err-upper.ensures.none (w / 2 ^ 32) (omega (arith, is.0), parts.0))

pub returns-in_err-lower-clause-none : goal.returns-in_err-lower-clause-none
returns-in_err-lower-clause-none c = if_none c.from_residual-in_err-lower.result _ (λ w is.
    let parts = halves c.args.text.now c.split_at.result.0.now c.split_at.result.1.now w c.split_at.ensures.front c.split_at.ensures.back
    (omega (arith, c.split_at.ensures.back_len, c.if-text-ne16.false)) is in
    c.in_err-lower.ensures.none (w % 2 ^ 32) (omega arith, parts.1))
