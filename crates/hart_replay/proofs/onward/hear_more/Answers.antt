use Rattle.std.proofs.Common.{◌≡◌, ◌<◌, ℕ, sym, subst, ◌∙◌, inl, inr, arith}
use Rattle.std.proofs.lemmas.Bool.{cases_lt}
use Rattle.ft_types.specs.Counts.{count_at}
use Rattle.ft_types.specs.declared.names.TheConstants.{HART_LIMIT}
use Rattle.input_log.specs.Inputs.{HearsMore, inputs_of}
use Rattle.hart_replay.proofs.onward.hear_more.Goals as goal

pub loop-number-preserved : goal.loop-number-preserved
loop-number-preserved c =
    λ hart lt. elim (cases_lt hart c.loop-number.number) [
      | inl before ↦ c.loop-number.invariant hart before
      | inr not ↦
          (let leg = c.args.leg.now in
          let later = c.args.later.now in
          let heard =
          subst (λ (n : ℕ). HearsMore (inputs_of leg.inputs c.new-hart.result) n (inputs_of later.inputs c.new-hart.result)) c.count_of.ensures.value
          (c.hears_more.ensures.0 c.if-not-hears_more.false) in
          let same : c.new-hart.result ≡ hart = omega (arith, lt, not, c.new-hart.ensures) in
          subst (λ (h : ℕ). HearsMore (inputs_of leg.inputs h) (count_at leg.ends h) (inputs_of later.inputs h)) same heard)
    ]

pub returns-then-not-hears_more : goal.returns-then-not-hears_more
returns-then-not-hears_more c = (
  λ e. cc,
  λ all.
      let hart = c.new-hart.result in
      let lt : hart < HART_LIMIT = omega (arith, c.new-hart.ensures, c.loop-number-test.true) in
      let heard =
      c.hears_more.ensures.1
      (subst (λ (n : ℕ). HearsMore (inputs_of c.args.leg.now.inputs hart) n (inputs_of c.args.later.now.inputs hart)) (sym c.count_of.ensures.value)
      (all hart lt)) in
      cc,
)
