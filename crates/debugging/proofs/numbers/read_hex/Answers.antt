use Rattle.std.proofs.Common.{arith}
use Rattle.debugging.proofs.Digits.{read_is}
use Rattle.debugging.proofs.numbers.read_hex.Goals as goal

pub returns-then-text-eq0-clause-number : goal.returns-then-text-eq0-clause-number
returns-then-text-eq0-clause-number c = λ n hex. absurd (omega (arith, hex.some))

pub returns-then-text-gt8-clause-number : goal.returns-then-text-gt8-clause-number
returns-then-text-gt8-clause-number c = λ n hex. absurd (omega (arith, hex.few))

pub returns-clause-number : goal.returns-clause-number
returns-clause-number c = λ n hex. read_is c.args.text.now _ _ c.padded.ensures c.read_word.ensures.found c.read_word.ensures.none n hex
