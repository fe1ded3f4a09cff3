use Rattle.std.proofs.Common.{below_more, true≢false, refl, sym, arith}
use Rattle.lease_rounds.proofs.Masks.{word_has, zeros_lack}
use Rattle.lease_rounds.proofs.page_words.has_any.Goals as goal

pub loop-place-preserved : goal.loop-place-preserved
loop-place-preserved c = below_more _ _ c.loop-place.invariant c.if-words-place-ne0.false

pub returns-then-words-place-ne0 : goal.returns-then-words-place-ne0
returns-then-words-place-ne0 c = (λ _. word_has c.args.words c.loop-place.place c.requires c.if-words-place-ne0.true, λ _. refl)

pub returns : goal.returns
returns c = (
  λ is. absurd (true≢false (sym is)),
  λ has. absurd (zeros_lack c.args.words c.loop-place.place (omega (arith, c.requires.0)) c.loop-place.invariant has.0 has.1),
)
