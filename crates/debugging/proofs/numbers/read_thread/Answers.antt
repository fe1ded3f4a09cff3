use Rattle.debugging.proofs.Threads.{any_named, none_named, zero_named, number_named}
use Rattle.debugging.proofs.numbers.read_thread.Goals as goal

pub returns-then-names_any : goal.returns-then-names_any
returns-then-names_any c = λ t is. any_named c.args.text.now t (c.names_any.ensures.0 c.if-names_any.true) is

pub returns-in_default : goal.returns-in_default
returns-in_default c = λ t is. none_named c.args.text.now t c.read_hex.result c.in_default.is c.read_hex.ensures.number
    (λ any. let yes = c.names_any.ensures.1 any in let no = c.if-names_any.false in absurd cc) is

pub returns-then-number-eq0 : goal.returns-then-number-eq0
returns-then-number-eq0 c = λ t is. zero_named c.args.text.now t c.read_hex.result c.in-Some.number c.in-Some.is c.if-number-eq0.true c.read_hex.ensures.number is

pub returns : goal.returns
returns c = λ t is. number_named c.args.text.now t c.read_hex.result c.in-Some.number c.in-Some.is c.if-number-eq0.false c.read_hex.ensures.number
    (λ any. let yes = c.names_any.ensures.1 any in let no = c.if-names_any.false in absurd cc) is
