use Rattle.std.proofs.Common.{◌≡◌, ℕ, drop, sym, ap, subst, ◌∙◌, arith, inl, inr}
use Rattle.std.proofs.lemmas.Bool.{cases_lt}
use Rattle.log_mending.specs.Mending.{HasFrame}
use Rattle.log_mending.proofs.Scans.{none_anywhere}
use Rattle.log_mending.proofs.scanning.has_frames.Goals as goal

pub loop-at-preserved : goal.loop-at-preserved
loop-at-preserved c = λ k lt has.
    elim (cases_lt k c.loop-at.at) [
      | inl less ↦ c.loop-at.invariant k less has
      | inr over ↦
          let same : k ≡ c.loop-at.at = omega (arith, lt, over) in
          c.in_ok-has_frame.ensures.none c.if-branch.false
          (subst HasFrame (ap (λ (n : ℕ). drop n c.args.bytes.now) same ∙ sym c.split_at.ensures.back) has)
    ]

pub returns-clause-none : goal.returns-clause-none
returns-clause-none c = λ e.
    none_anywhere c.args.bytes.now c.loop-at.at (omega (arith, c.loop-at-test.false)) c.loop-at.invariant
