use Rattle.std.proofs.Common.{sym, ◌∙◌, inl, inr}
use Rattle.leading.proofs.waiting.comes_round.Goals as goal

pub returns-then-is_halted-clause-round : goal.returns-then-is_halted-clause-round
returns-then-is_halted-clause-round c = (λ e. inl (sym c.is_halted.ensures ∙ c.if-is_halted.true), λ waits. c.if-is_halted.true)

pub returns-else-is_halted-clause-round : goal.returns-else-is_halted-clause-round
returns-else-is_halted-clause-round c = (
  λ e. inr (c.goes_round.ensures.round.0 e),
  λ waits. elim waits [
    | inl halted ↦ absurd (let yes = c.is_halted.ensures ∙ halted in let no = c.if-is_halted.false in cc)
    | inr round ↦ c.goes_round.ensures.round.1 round
  ],
)
