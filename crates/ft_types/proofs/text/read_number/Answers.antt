use Rattle.std.proofs.Common.{arith}
use Rattle.ft_types.proofs.Texts.{number_goes_on, number_is_read, number_fits, not_number_empty, not_number_long, not_number_zero, not_number_digit}
use Rattle.ft_types.proofs.text.read_number.Goals as goal
use Rattle.ft_types.proofs.text.read_number.Goals.{then-text-gt1+else-text-eq48, else-text-gt1}

pub returns-then-text-eq0-clause-none : goal.returns-then-text-eq0-clause-none
returns-then-text-eq0-clause-none c = not_number_empty c.args.text.now c.if-text-eq0.true

pub returns-then-text-gt15-clause-none : goal.returns-then-text-gt15-clause-none
returns-then-text-gt15-clause-none c = not_number_long c.args.text.now c.if-text-gt15.true

pub returns-then-text-eq48-clause-none : goal.returns-then-text-eq48-clause-none
returns-then-text-eq48-clause-none c = not_number_zero c.args.text.now c.if-text-gt1.true c.if-text-eq48.true

pub returns-in-None-clause-none : goal.returns-in-None-clause-none
returns-in-None-clause-none c = not_number_digit c.args.text.now c.loop-byte.byte-index c.loop-byte-test.true c.in-None.ensures.none

pub overflow_mul-value : goal.overflow_mul-value
overflow_mul-value c = omega (
  arith,
  number_fits c.loop-byte.byte-index c.loop-byte.value c.in-Some.digit (omega arith) c.loop-byte.invariant.0
      c.in-Some.ensures.found.0,
)

pub overflow_add-value : goal.overflow_add-value
overflow_add-value c = omega (
  arith,
  number_fits c.loop-byte.byte-index c.loop-byte.value c.in-Some.digit (omega arith) c.loop-byte.invariant.0
      c.in-Some.ensures.found.0,
)

pub loop-byte-preserved : goal.loop-byte-preserved
loop-byte-preserved c =
    number_goes_on c.args.text.now c.loop-byte.byte-index c.loop-byte.value c.in-Some.digit c.loop-byte-test.true (omega arith) c.in-Some.ensures.found.0
    c.in-Some.ensures.found.1
    (λ several zero. elim c.if-text-gt1.branch [ then-text-gt1+else-text-eq48 w ↦ w.if-text-eq48.false zero | else-text-gt1 w ↦ omega arith ])
    c.loop-byte.invariant

pub returns-clause-found : goal.returns-clause-found
returns-clause-found c = number_is_read c.args.text.now c.loop-byte.value c.loop-byte.byte-index (omega arith) (omega arith) (omega arith) c.loop-byte.invariant
