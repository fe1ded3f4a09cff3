use Rattle.std.proofs.Common.{◌≡◌, Some, slice_get, ap, subst, sym, refl, ◌∙◌, inl, inr, arith}
use Rattle.std.proofs.lemmas.Bool.{cases_lt}
use Rattle.std.proofs.lemmas.Option.{slice_get_within}
use Rattle.hart_lease.specs.Slots.{ram_of}
use Rattle.leading.specs.Waiting.{Waits}
use Rattle.leading.proofs.GoingRound.{hart_there}
use Rattle.leading.proofs.waiting.only_waits.Goals as goal

pub loop-number-init : goal.loop-number-init
loop-number-init c = record { pages = ap ram_of c.in_ok-pages.ensures; done = λ hart h lt at. absurd (omega (arith, lt)) }

pub returns-then-not-waits : goal.returns-then-not-waits
returns-then-not-waits c = (
  λ e. absurd (cc e),
  λ all.
      let n = c.new.result in
      let number = c.new.ensures in
      let (h, at) = hart_there c.args.machine.now.harts n (omega (arith, number, c.loop-number-test.true, c.harts-number-end.ensures.value)) in
      absurd (let yes = (c.waits.ensures.waits h at).1 (all n h at) in let no = c.if-not-waits.true in cc),
)

pub loop-number-preserved : goal.loop-number-preserved
loop-number-preserved c = record {
  pages = c.waits.ensures.pages ∙ c.loop-number.invariant.pages;
  done = λ hart h lt at. elim (cases_lt hart c.loop-number.number) [
    | inl less ↦ c.loop-number.invariant.done hart h less at
    | inr over ↦
        let number = c.new.ensures in
        let e : hart ≡ c.new.result = omega (arith, lt, over, number) in
        subst (λ k. Waits c.args.machine.now k h) (sym e)
        ((c.waits.ensures.waits h (ap (slice_get c.args.machine.now.harts) (sym e) ∙ at)).0 c.if-not-waits.false)
  ];
}

pub returns : goal.returns
returns c = (
  λ e hart h at.
      c.loop-number.invariant.done hart h
      (let inside = slice_get_within c.args.machine.now.harts hart h at in omega (arith, inside, c.loop-number-test.false, c.harts-number-end.ensures.value)) at,
  λ all. refl,
)
