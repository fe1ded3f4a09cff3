use Rattle.debugging.proofs.Telling.{quiet_told, last_told, attached_told, abilities_told}
use Rattle.debugging.proofs.queries.constant.Goals as goal

pub returns-then-is : goal.returns-then-is
returns-then-is c = λ text. quiet_told c.args.query.now text (c.is.ensures.0 c.if-is.true)

pub returns-then-is-2 : goal.returns-then-is-2
returns-then-is-2 c = λ text. last_told c.args.query.now text (c.is-2.ensures.0 c.if-is-2.true)

pub returns-then-is-3 : goal.returns-then-is-3
returns-then-is-3 c = λ text. attached_told c.args.query.now text (c.is-3.ensures.0 c.if-is-3.true)

pub returns : goal.returns
returns c = λ text. abilities_told c.args.query.now text c.abilities.result.now (λ e. let yes = c.is.ensures.1 e in let no = c.if-is.false in absurd cc)
    (λ e. let yes = c.is-2.ensures.1 e in let no = c.if-is-2.false in absurd cc) (λ e. let yes = c.is-3.ensures.1 e in let no = c.if-is-3.false in absurd cc) c.abilities.ensures
