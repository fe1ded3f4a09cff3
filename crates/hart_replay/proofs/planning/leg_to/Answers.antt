use Rattle.std.proofs.Common.{◌≡◌, ℕ, zero, suc, List, length, replicate, refl, subst, ap, arith, ◌∙◌}
use Rattle.std.proofs.lemmas.List.{length-replicate}
use Rattle.ft_types.specs.Counts.{count_at}
use Rattle.closed_cut.proofs.Reach.{base_many}
use Rattle.hart_replay.specs.machinery.Taking.{TakesHart}
use Rattle.hart_replay.proofs.walking.Harts.{taken_none, taken_more, has_edges, has_inputs, has_marks}
use Rattle.hart_replay.proofs.planning.leg_to.Goals as goal

zero_at : (n h : ℕ) → count_at (replicate n 0) h ≡ 0
zero_at zero h = refl
zero_at (suc n) zero = refl
zero_at (suc n) (suc h) = zero_at n h

-- no hart has a mark
no_marks : (base marks : List ℕ) → {n : ℕ} → marks ≡ replicate n 0 → n ≡ length base → (length marks ≡ length base) × ((h : ℕ) → count_at marks h ≡ 0)
no_marks base marks {n} is many = (
  ap length is ∙ length-replicate n 0 ∙ many,
  λ h. ap (λ (row : List ℕ). count_at row h) is ∙ zero_at n h,
)

pub loop-number-init : goal.loop-number-init
loop-number-init c =
    record {
      term = c.term.ensures;
      base = c.base-base.ensures.base;
      ends = refl;
      taken =
          taken_none c.args.store.now c.term.result c.base-base.result c.args.ends c.new.result c.new-2.result c.zero.result c.new.ensures.start
          c.new.ensures.edges c.new.ensures.rows c.new-2.ensures (no_marks c.base-base.result c.zero.result c.zero.ensures c.harts.ensures.value).0
          (no_marks c.base-base.result c.zero.result c.zero.ensures c.harts.ensures.value).1;
    }

pub loop-number-preserved : goal.loop-number-preserved
loop-number-preserved c =
    let store = c.args.store.now in
    let old = c.loop-number.leg in
    let new = c.add_hart.new.leg in
    let more = subst (λ n. TakesHart store n old new) c.new-in-loop-number.ensures c.in_ok-add_hart.ensures.taken in
    record {
      term = c.add_hart.ensures.term ∙ c.loop-number.invariant.term;
      base = c.add_hart.ensures.base ∙ c.loop-number.invariant.base;
      ends = c.add_hart.ensures.ends ∙ c.loop-number.invariant.ends;
      taken =
          rw (c.add_hart.ensures.term, c.add_hart.ensures.base, c.add_hart.ensures.ends)
          (taken_more store old new c.loop-number.number c.loop-number.invariant.taken more);
    }

pub returns-clause-edges : goal.returns-clause-edges
returns-clause-edges c =
    let many : length c.base-base.result ≡ c.args.store.now.guest.harts =
    ap length c.base-base.ensures.base ∙ base_many c.args.store.now c.args.opening.now c.requires.rules c.requires.opening in
    has_edges c.args.store.now c.requires.rules c.loop-number.leg c.loop-number.number (omega arith) c.loop-number.invariant.taken

pub returns-clause-inputs : goal.returns-clause-inputs
returns-clause-inputs c =
    let many : length c.base-base.result ≡ c.args.store.now.guest.harts =
    ap length c.base-base.ensures.base ∙ base_many c.args.store.now c.args.opening.now c.requires.rules c.requires.opening in
    has_inputs c.args.store.now c.requires.rules c.loop-number.leg c.loop-number.number (omega arith) c.loop-number.invariant.taken

pub returns-clause-marks : goal.returns-clause-marks
returns-clause-marks c =
    let many : length c.base-base.result ≡ c.args.store.now.guest.harts =
    ap length c.base-base.ensures.base ∙ base_many c.args.store.now c.args.opening.now c.requires.rules c.requires.opening in
    has_marks c.args.store.now c.requires.rules c.loop-number.leg c.loop-number.number (omega arith) c.loop-number.invariant.taken
