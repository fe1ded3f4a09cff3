use Rattle.std.proofs.Common.{ℕ, List, ◌++◌, sym, ap, ◌∙◌}
use Rattle.debugging.proofs.Digits.{front_is}
use Rattle.debugging.proofs.numbers.behind.Goals as goal

pub returns-then-is-clause-some : goal.returns-then-is-clause-some
returns-then-is-clause-some c = c.split_at.ensures.by_index.0 ∙ ap (λ (x : List ℕ). x ++ c.split_at.result.1.now) (c.is.ensures.0 c.if-is.true)

pub returns-clause-none : goal.returns-clause-none
returns-clause-none c = λ rest is.
    let yes = c.is.ensures.1 (front_is c.args.front.now rest c.split_at.result.0.now c.split_at.result.1.now c.split_at.ensures.front_len (sym c.split_at.ensures.by_index.0 ∙ is)) in
    let no = c.if-is.false in absurd cc
