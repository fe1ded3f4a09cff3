use Rattle.std.proofs.Common.{arith}
use Rattle.ft_types.proofs.Texts.{word_begins, word_goes_on, word_is_read, not_word_length, not_word_digit}
use Rattle.ft_types.proofs.text.read_word.Goals as goal

pub returns-then-text-ne8-clause-none : goal.returns-then-text-ne8-clause-none
returns-then-text-ne8-clause-none c = not_word_length c.args.text.now c.if-text-ne8.true

pub loop-byte-init : goal.loop-byte-init
loop-byte-init c = word_begins c.args.text.now

pub returns-in-None-clause-none : goal.returns-in-None-clause-none
returns-in-None-clause-none c = not_word_digit c.args.text.now c.loop-byte.byte-index (omega arith) c.in-None.ensures.none

pub loop-byte-preserved : goal.loop-byte-preserved
loop-byte-preserved c = word_goes_on c.args.text.now c.loop-byte.byte-index c.loop-byte.value c.in-Some.digit (omega arith) c.in-Some.ensures.found.0
    c.in-Some.ensures.found.1 c.loop-byte.invariant

pub returns-clause-found : goal.returns-clause-found
returns-clause-found c = word_is_read c.args.text.now c.loop-byte.value c.loop-byte.byte-index c.if-text-ne8.false (omega arith) c.loop-byte.invariant
