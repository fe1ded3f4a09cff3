use Rattle.std.proofs.Common.{below_more, true≢false, refl, sym, arith}
use Rattle.lease_rounds.proofs.Masks.{words_meet, words_apart}
use Rattle.lease_rounds.proofs.page_words.do_meet.Goals as goal

pub loop-place-preserved : goal.loop-place-preserved
loop-place-preserved c = below_more _ _ c.loop-place.invariant c.if-these-place-ne0.false

pub returns-then-these-place-ne0 : goal.returns-then-these-place-ne0
returns-then-these-place-ne0 c = (λ _. words_meet c.args.these c.args.those c.loop-place.place c.requires c.if-these-place-ne0.true, λ _. refl)

pub returns : goal.returns
returns c = (
  λ is. absurd (true≢false (sym is)),
  λ has.
      absurd
      (words_apart c.args.these c.args.those c.loop-place.place (omega (arith, c.requires.0)) c.loop-place.invariant has.0 has.1.0 has.1.1),
)
