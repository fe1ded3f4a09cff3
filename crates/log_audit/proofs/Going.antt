-- One step more of a hart whose edges are known.
use Rattle.std.proofs.Common.{◌≡◌, inl, inr, ℕ, zero, suc, slice_set, ◌+◌, ◌<◌, ◌≤◌, List, [], ◌∷◌, ◌++◌, length, slice_get, slice_index, Some, Contains, refl, ap, sym, subst, ◌∙◌, arith}
use Rattle.std.proofs.lemmas.Bool.{cases_lt}
use Rattle.std.proofs.lemmas.Option.{slice_get_within}
use Rattle.interleaving.proofs.Lists.{get_set_same}
use Rattle.ft_types.specs.declared.names.TheConstants.{HART_LIMIT}
use Rattle.rv32_hart.specs.machinery.Local.{step_counted}
use Rattle.ft_types.specs.Counts.{count_at}
use Rattle.interleaving.specs.Machine.{Writes}
use Rattle.interleaving.specs.Log.{Before, IsMet, bump}
use Rattle.interleaving.proofs.Put.{same_or_not, put_same, bump_other}
use Rattle.input_log.specs.declared.Input.{Input}
use Rattle.rv32_hart.specs.Hart.{Hart}
use Rattle.guest_image.specs.Machine.{MachineState}
use Rattle.hart_lease.specs.Runs.{counts_of, steps_taken}
use Rattle.hart_replay.specs.declared.plans.PlannedLeg.{PlannedLeg}
use Rattle.hart_replay.specs.Plans.{IsLeg, log_of}
use Rattle.log_audit.specs.declared.befores.Before.{Before as Entry}
use Rattle.log_audit.specs.machinery.Marks.{read_mark, written_mark}
use Rattle.log_audit.specs.Coverage.{TakenStep, AreUncovered}
use Rattle.log_audit.specs.machinery.Covered.{HartsView, machine_of, steps_left, effect_in, IsOn, IsCovered, IsKnown, InForce, IsQuietTo, TakesStep, Clashes}
use Rattle.log_audit.proofs.Covering.{mark_below}
use Rattle.log_audit.proofs.NextMarks.{counts_next}
use Rattle.log_audit.proofs.Knowing.{known_later, known_further}
use Rattle.log_audit.proofs.KnownBefore.{force_sound, not_before, not_after}
use Rattle.log_audit.proofs.Stepping.{covered_stepped, clash_uncovered}

bump_own : (now : ℕ → ℕ) (hart : ℕ) → bump now hart hart ≡ now hart + 1
bump_own now hart = put_same now hart hart (now hart + 1) refl

bump_grows : (now : ℕ → ℕ) (hart g : ℕ) → now g ≤ bump now hart g
bump_grows now hart g =
    elim (same_or_not hart g) [
      | inl same ↦ let own = put_same now hart g (now hart + 1) same in let is = ap now same in omega (arith, own, is)
      | inr ne ↦ let stays = bump_other now hart g ne in omega (arith, stays)
    ]

-- a hart that goes on has fewer steps to go
fewer_left : (ends : List ℕ) (harts : List Hart) (hart : ℕ) (h after : Hart) → slice_get harts hart ≡ Some h → h.count < after.count →
    h.count < count_at ends hart → steps_left ends (slice_set harts hart after) < steps_left ends harts
fewer_left [] harts hart h after there lt le = absurd (omega arith)
fewer_left (end ∷ ends) [] hart h after there lt le = cc
fewer_left (end ∷ ends) (x ∷ harts) zero h after there lt le =
    let same : x ≡ h = cc in omega (arith, ap (λ (y : Hart). y.count) same)
fewer_left (end ∷ ends) (x ∷ harts) (suc hart) h after there lt le =
    let rest = fewer_left ends harts hart h after there lt le in omega (arith, rest)

took_fewer : (ends : List ℕ) (hart : ℕ) (h : Hart) (inputs : List Input) (before : List ℕ) (b c : HartsView) → TakesStep hart h inputs before b c →
    h.count < count_at ends hart → steps_left ends c.harts < steps_left ends b.harts
took_fewer ends hart h inputs before b c took below =
    let counted = step_counted (length b.pages.contents) h inputs (slice_get b.pages.contents) in
    let less = fewer_left ends b.harts hart h (effect_in b h inputs).hart took.found (omega (arith, counted)) below in
    subst (λ (hs : List Hart). steps_left ends hs < steps_left ends b.harts) (sym took.harts) less

pub took_counted : (hart : ℕ) (h : Hart) (inputs : List Input) (before : List ℕ) (b c : HartsView) → TakesStep hart h inputs before b c →
    counts_of (machine_of c) hart ≡ h.count + 1
took_counted hart h inputs before b c took =
    ap (λ (hs : List Hart). steps_taken (slice_get hs hart)) took.harts
    ∙ ap steps_taken (get_set_same b.harts hart (effect_in b h inputs).hart (slice_get_within b.harts hart h took.found))
    ∙ step_counted (length b.pages.contents) h inputs (slice_get b.pages.contents)

-- a hart took its step, and can go on
pub record HasGone (leg : PlannedLeg) (hart count : ℕ) (before : List ℕ) (b c : HartsView) : Type 0 where
  pub start : c.start ≡ b.start
  pub there : hart < length c.harts
  pub leg_is : IsLeg (length c.start.harts) leg
  pub on : IsOn leg c
  pub force : InForce c.befores hart before
  pub next : counts_of (machine_of c) hart ≡ count + 1
  pub fewer : steps_left leg.ends c.harts < steps_left leg.ends b.harts

module _ (leg : PlannedLeg) (order : List ℕ) (b : HartsView) (hart : ℕ) (h : Hart) (found : slice_get b.harts hart ≡ Some h)
    (covered : IsCovered leg order (bump (counts_of (machine_of b)) hart) b) (inputs : List Input) (given : inputs ≡ (log_of leg).inputs hart h.count)
    (below : h.count < count_at leg.ends hart) (met : IsMet (log_of leg).edges (counts_of (machine_of b)) hart) (before : List ℕ)
    (force : InForce b.befores hart before) where
  now_is : counts_of (machine_of b) hart ≡ h.count
  now_is = ap steps_taken found

  reach_is : bump (counts_of (machine_of b)) hart hart ≡ h.count + 1
  reach_is = let own = bump_own (counts_of (machine_of b)) hart in omega (arith, own, now_is)

  went_on : (c : HartsView) → TakesStep hart h inputs before b c → IsLeg (length b.start.harts) leg → length b.start.harts ≤ HART_LIMIT →
      IsCovered leg (order ++ hart ∷ []) (counts_of (machine_of c)) c × InForce c.befores hart before
  went_on c took is_leg few =
      let next = counts_next leg order (bump (counts_of (machine_of b)) hart) b covered hart h inputs before c took in
      let later : IsKnown (log_of leg).edges (bump (counts_of (machine_of b)) hart) (counts_of (machine_of c)) b.befores =
      known_later (log_of leg).edges (bump (counts_of (machine_of b)) hart) (counts_of (machine_of b)) (counts_of (machine_of c)) b.befores covered.known
      (λ g. let is = next g in let grows = bump_grows (counts_of (machine_of b)) hart g in omega (arith, is, grows)) in
      let further : IsKnown (log_of leg).edges (counts_of (machine_of c)) (counts_of (machine_of c)) b.befores =
      known_further (log_of leg).edges (bump (counts_of (machine_of b)) hart) (counts_of (machine_of c)) (counts_of (machine_of c)) b.befores later
      (λ g. let is = next g in omega (arith, is)) (λ e has lt. let is = next e.hart in omega (arith, is, lt)) in
      let known = subst (λ (rows : List (List Entry)). IsKnown (log_of leg).edges (counts_of (machine_of c)) (counts_of (machine_of c)) rows) (sym took.befores)
      further in
      let sound : (g x : ℕ) → x < slice_index before g →
      Before (log_of leg).edges (record { hart = g; step = x }) (record { hart = hart; step = h.count }) =
      force_sound (log_of leg).edges (bump (counts_of (machine_of b)) hart) (counts_of (machine_of b)) b.befores hart before covered.known force h.count
      (λ x has. let lt = covered.known.since hart x has in omega (arith, lt, reach_is)) in (
        covered_stepped leg order (bump (counts_of (machine_of b)) hart) b covered hart h inputs given below met before c took is_leg few sound known,
        subst (λ (rows : List (List Entry)). InForce rows hart before) (sym took.befores) force,
      )

  pub has_gone : (c : HartsView) → TakesStep hart h inputs before b c → IsLeg (length b.start.harts) leg → length b.start.harts ≤ HART_LIMIT →
      HasGone leg hart h.count before b c
  has_gone c took is_leg few =
      let went = went_on c took is_leg few in
      let harts : length c.harts ≡ length c.start.harts = went.0.harts in
      let as_many : length b.harts ≡ length b.start.harts = covered.harts in
      let same : length c.start.harts ≡ length b.start.harts = ap (λ (m : MachineState). length m.harts) took.start in
      let lt = slice_get_within b.harts hart h found in
      record {
        start = took.start;
        there = omega (arith, harts, as_many, same, lt);
        leg_is = subst (λ (m : MachineState). IsLeg (length m.harts) leg) (sym took.start) is_leg;
        on = (order ++ hart ∷ [], went.0);
        force = went.1;
        next = took_counted hart h inputs before b c took;
        fewer = took_fewer leg.ends hart h inputs before b c took below;
      }

  taken_there : (page : ℕ) (other : ℕ × ℕ) → Clashes hart h inputs before b page other → other.1 < counts_of (machine_of b) other.0
  taken_there page other clashes =
      elim clashes.last [
        | inl is ↦ elim (covered.written_marks page other.0) [
          | inl none ↦ absurd (omega (arith, is, none))
          | inr mark ↦
              let le = mark_below leg order (bump (counts_of (machine_of b)) hart) b covered (λ (s : TakenStep). Writes s.effect page) other.0
              (written_mark b.pages page other.0) mark in
              omega (arith, le, is)
        ]
        | inr is ↦ elim (covered.read_marks page other.0) [
          | inl none ↦ let here = is.0 in absurd (omega (arith, here, none))
          | inr mark ↦
              let le = mark_below leg order (bump (counts_of (machine_of b)) hart) b covered (λ (s : TakenStep). Contains s.effect.touched page) other.0
              (read_mark b.pages page other.0) mark in
              let here = is.0 in
              omega (arith, le, here)
        ]
      ]

  pub clashed : (page : ℕ) (other : ℕ × ℕ) → Clashes hart h inputs before b page other → AreUncovered leg b.start page (hart, h.count) other
  clashed page other clashes =
      clash_uncovered leg order (bump (counts_of (machine_of b)) hart) b covered hart h inputs given below met before page other clashes
      (not_before (log_of leg).edges (bump (counts_of (machine_of b)) hart) (counts_of (machine_of b)) b.befores covered.known
      (bump_grows (counts_of (machine_of b)) hart) hart before force other.0 other.1 h.count clashes.on_other clashes.unordered (omega (arith, reach_is)))
      (λ is. not_after (log_of leg).edges (bump (counts_of (machine_of b)) hart) (counts_of (machine_of b)) b.befores covered.known
      (bump_grows (counts_of (machine_of b)) hart) hart other.0 other.1 (taken_there page other clashes) clashes.on_other
      (subst (λ (n : ℕ). Before (log_of leg).edges (record { hart = hart; step = n }) (record { hart = other.0; step = other.1 })) (sym now_is) is))

-- a hart with no edge at its count reaches one step further
pub quiet_covered : (leg : PlannedLeg) (order : List ℕ) (b : HartsView) (hart stop : ℕ) → IsCovered leg order (counts_of (machine_of b)) b →
    IsQuietTo leg hart (counts_of (machine_of b) hart) stop → counts_of (machine_of b) hart < stop →
    IsCovered leg order (bump (counts_of (machine_of b)) hart) b
quiet_covered leg order b hart stop covered quiet lt =
    record {
      begins = covered.begins;
      run = covered.run;
      pages = covered.pages;
      harts = covered.harts;
      counts = covered.counts;
      ordered = covered.ordered;
      noted = covered.noted;
      read_marks = covered.read_marks;
      written_marks = covered.written_marks;
      wide = covered.wide;
      known =
          known_further (log_of leg).edges (counts_of (machine_of b)) (bump (counts_of (machine_of b)) hart) (counts_of (machine_of b)) b.befores covered.known
          (bump_grows (counts_of (machine_of b)) hart)
          (λ e has less. elim (same_or_not hart e.hart) [
            | inl same ↦ elim (cases_lt e.step (counts_of (machine_of b) hart)) [
              | inl low ↦ let is = ap (counts_of (machine_of b)) same in omega (arith, low, is)
              | inr high ↦ let past = quiet.edges e has (sym same) high in
                  let own = put_same (counts_of (machine_of b)) hart e.hart (counts_of (machine_of b) hart + 1) same in
                  absurd (omega (arith, past, own, less, lt))
            ]
            | inr ne ↦ let stays = bump_other (counts_of (machine_of b)) hart e.hart ne in omega (arith, stays, less)
          ]);
    }

pub quiet_met : (leg : PlannedLeg) (b : HartsView) (hart stop : ℕ) → IsQuietTo leg hart (counts_of (machine_of b) hart) stop → counts_of (machine_of b) hart < stop →
    IsMet (log_of leg).edges (counts_of (machine_of b)) hart
quiet_met leg b hart stop quiet lt e has own at = let past = quiet.edges e has own (omega (arith, at)) in absurd (omega (arith, past, at, lt))

pub quiet_later : (leg : PlannedLeg) (hart count later stop : ℕ) → count ≤ later → IsQuietTo leg hart count stop → IsQuietTo leg hart later stop
quiet_later leg hart count later stop le quiet =
    record {
      within = quiet.within;
      edges = λ e has own at. quiet.edges e has own (omega (arith, le, at));
      inputs = λ n from lt. quiet.inputs n (omega (arith, le, from)) lt;
    }
