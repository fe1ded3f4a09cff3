-- At a moment there is one step.
use Rattle.std.proofs.Common.{◌≡◌, inl, inr, ℕ, ◌+◌, ◌<◌, ◌≤◌, List, All, Option, Some, None, IfSome, IfNone, length, slice_get, refl, ap, sym, subst, ◌∙◌, arith}
use Rattle.std.proofs.lemmas.List.Elements.{All-contains}
use Rattle.input_log.specs.declared.Input.{Input}
use Rattle.rv32_hart.specs.Hart.{Hart}
use Rattle.rv32_hart.specs.Csrs.{received_all}
use Rattle.guest_image.specs.Machine.{MachineState}
use Rattle.hart_lease.specs.Runs.{counts_of, steps_taken}
use Rattle.log_audit.proofs.StepAnswers.{there_below}
use Rattle.hart_replay.specs.declared.plans.PlannedLeg.{PlannedLeg}
use Rattle.hart_replay.specs.Plans.{log_of}
use Rattle.hart_replay.proofs.Fronts.{past_all}
use Rattle.least_cuts.proofs.Legs.{one_leg, some_is}
use Rattle.plan_lines.specs.declared.access.Access.{Access}
use Rattle.plan_lines.specs.declared.access.Access.TheVariants.{Nothing}
use Rattle.moments.specs.declared.points.Point.{Point}
use Rattle.moments.specs.declared.points.Point.TheVariants.{Break, Watch}
use Rattle.plan_lines.specs.Line.{InLeg, IsNext, NoneMayGo, Standing, standing_at, Leads, LineView}
use Rattle.plan_lines.specs.Uses.{IsStepFrom, StepAt, used_next}
use Rattle.moments.specs.Points.{Breaks, Watches, BreaksAt, WatchesAt, IsOne, NoneFrom}
use Rattle.plan_lines.specs.machinery.Kept.{IsTurned}
use Rattle.moments.proofs.Keeping.{leg_there}
use Rattle.moments.proofs.Lines.{if_some, if_none}
use Rattle.plan_lines.proofs.Moves.{Move, one_next, none_at_ends, parted, along, later}
use Rattle.plan_lines.proofs.Moves.{Step, Turn}

-- of two standings at one moment, the second of which has a step, the first leads to the second by turns alone
not_behind : (legs : List PlannedLeg) (a b : Standing) (h : Hart) (access : Access) → Leads legs a b → a.moment ≡ b.moment →
    IsStepFrom legs a h access → a ≡ b
not_behind legs a b h access on same step =
    elim (parted legs a b on) [
      | inl is ↦ is
      | inr (c, first, rest) ↦ of c first rest
    ]
  where
    of : (c : Standing) → Move legs a c → Leads legs c b → a ≡ b
    of c (Step leg hart n at next steps) rest = let le = later legs c b rest in absurd (omega (arith, le, same))
    of c (Turn leg at ends) rest =
        let is = one_leg legs a.place leg step.leg at step.there in
        absurd (none_at_ends leg a.machine step.hart ends (subst (λ (l : PlannedLeg). IsNext l a.machine step.hart) (sym is) step.next).may)

-- from a standing there is one step
pub one_step : (legs : List PlannedLeg) (t : Standing) (h k : Hart) (access other : Access) → IsStepFrom legs t h access → IsStepFrom legs t k other →
    (h ≡ k) × (access ≡ other)
one_step legs t h k access other step that = (hart, step.uses ∙ uses ∙ sym that.uses)
  where
    leg : step.leg ≡ that.leg
    leg = one_leg legs t.place step.leg that.leg step.there that.there

    number : step.hart ≡ that.hart
    number =
        one_next that.leg t.machine step.hart that.hart (subst (λ (l : PlannedLeg). IsNext l t.machine step.hart) leg step.next) that.next

    hart : h ≡ k
    hart = some_is h k (sym step.found ∙ ap (slice_get t.machine.harts) number ∙ that.found)

    uses : used_next t.machine.pages (received_all ((log_of step.leg).inputs step.hart h.count) h) ≡
        used_next t.machine.pages (received_all ((log_of that.leg).inputs that.hart k.count) k)
    uses =
        ap (λ (l : PlannedLeg). used_next t.machine.pages (received_all ((log_of l).inputs step.hart h.count) h)) leg
        ∙ ap (λ (n : ℕ). used_next t.machine.pages (received_all ((log_of that.leg).inputs n h.count) h)) number
        ∙ ap (λ (x : Hart). used_next t.machine.pages (received_all ((log_of that.leg).inputs that.hart x.count) x)) hart

-- the standing of the step at a moment is the one from which a line does not turn
pub standing_is : (legs : List PlannedLeg) (start : MachineState) (t : Standing) (P : Hart → Access → Type 0) → Leads legs (standing_at start) t →
    IsTurned legs t → (there : StepAt legs start t.moment P) → there.standing ≡ t
standing_is legs start t P leads turned there =
    elim (along legs (standing_at start) t there.standing leads there.leads) [
      | inl on ↦
          elim (parted legs t there.standing on) [
            | inl same ↦ sym same
            | inr (c, first, rest) ↦ of c first rest
          ]
      | inr back ↦ not_behind legs there.standing t there.hart there.access back there.at there.step
    ]
  where
    never : (s : Standing) → length legs ≤ s.place → (d : Standing) → Move legs s d → ⊥
    never s past d (Step leg hart n at next steps) = let both : None ≡ Some leg = sym (past_all legs s.place past) ∙ at in cc
    never s past d (Turn leg at ends) = let both : None ≡ Some leg = sym (past_all legs s.place past) ∙ at in cc

    nothing : (c u : Standing) → length legs ≤ c.place → Leads legs c u → IsStepFrom legs u there.hart there.access → ⊥
    nothing c u le rest step =
        elim (parted legs c u rest) [
          | inl same ↦
              let at : slice_get legs u.place ≡ None = ap (λ (s : Standing). slice_get legs s.place) (sym same) ∙ past_all legs c.place le in
              let both : None ≡ Some step.leg = sym at ∙ step.there in
              cc
          | inr (d, first, more) ↦ never c le d first
        ]

    of : (c : Standing) → Move legs t c → Leads legs c there.standing → there.standing ≡ t
    of c (Step leg hart n at next steps) rest =
        let le = later legs c there.standing rest in let is = there.at in absurd (omega (arith, le, is))
    of c (Turn leg at ends) rest = absurd (nothing c there.standing (turned leg at ends) rest there.step)

pub step_from : (legs : List PlannedLeg) (start : MachineState) (t : Standing) (P : Hart → Access → Type 0) → Leads legs (standing_at start) t →
    IsTurned legs t → (there : StepAt legs start t.moment P) → IsStepFrom legs t there.hart there.access
step_from legs start t P leads turned there =
    subst (λ (u : Standing). IsStepFrom legs u there.hart there.access) (standing_is legs start t P leads turned there) there.step

-- what holds of the step at a moment holds of the hart that was looked at
pub fact_here : (legs : List PlannedLeg) (start : MachineState) (t : Standing) (h : Hart) (access : Access) (P : Hart → Access → Type 0) →
    Leads legs (standing_at start) t → IsTurned legs t → IsStepFrom legs t h access → StepAt legs start t.moment P → P h access
fact_here legs start t h access P leads turned step there =
    let one = one_step legs t there.hart h there.access access (step_from legs start t P leads turned there) step in
    subst (λ (x : Hart). P x access) one.0 (subst (λ (x : Access). P there.hart x) one.1 there.fact)

-- where no hart may go there is no step
pub no_step : (legs : List PlannedLeg) (start : MachineState) (t : Standing) (P : Hart → Access → Type 0) → Leads legs (standing_at start) t →
    IsTurned legs t → ((leg : PlannedLeg) → slice_get legs t.place ≡ Some leg → NoneMayGo leg t.machine) → StepAt legs start t.moment P → ⊥
no_step legs start t P leads turned none there =
    let step = step_from legs start t P leads turned there in
    none step.leg step.there step.hart step.next.may

-- the step of the hart that comes next
pub step_here : (legs : List PlannedLeg) (t : Standing) (leg : PlannedLeg) (hart : ℕ) (h : Hart) → slice_get legs t.place ≡ Some leg →
    IsNext leg t.machine hart → slice_get t.machine.harts hart ≡ Some h →
    IsStepFrom legs t h (used_next t.machine.pages (received_all ((log_of leg).inputs hart h.count) h))
step_here legs t leg hart h at next found = record { leg = leg; there = at; hart = hart; next = next; found = found; uses = refl }

-- ---- what the next step uses, from what a timeline looks at

module _ (v : LineView) (hart : ℕ) (place : v.stands.place < length v.legs) (next : InLeg v (λ leg. IsNext leg v.stands.machine hart))
    (there : hart < length v.stands.machine.harts) (inputs : List Input)
    (inputs_is : InLeg v (λ leg. inputs ≡ (log_of leg).inputs hart (counts_of v.stands.machine hart))) (machine : MachineState)
    (machine_is : machine ≡ v.stands.machine) (result : Access)
    (uses : (h : Hart) → slice_get machine.harts hart ≡ Some h → result ≡ used_next machine.pages (received_all inputs h)) where
  pub step_used : (h : Hart) × IsStepFrom v.legs v.stands h result
  step_used =
      let (leg, at) = leg_there v.legs v.stands.place place in
      let (h, found) = there_below v.stands.machine.harts hart there in
      let used : result ≡ used_next v.stands.machine.pages (received_all inputs h) =
      subst (λ (m : MachineState). (k : Hart) → slice_get m.harts hart ≡ Some k → result ≡ used_next m.pages (received_all inputs k)) machine_is uses h
      found in (
        h,
        record {
          leg = leg;
          there = at;
          hart = hart;
          next = next leg at;
          found = found;
          uses =
              used
              ∙ ap (λ (given : List Input). used_next v.stands.machine.pages (received_all given h))
              (inputs_is leg at ∙ ap ((log_of leg).inputs hart) (ap steps_taken found));
        },
      )

  pub uses_same : (h : Hart) (access : Access) → IsStepFrom v.legs v.stands h access → result ≡ access
  uses_same h access step = (one_step v.legs v.stands step_used.0 h result access step_used.1 step).1

-- where no hart may go none uses anything
pub none_uses : (v : LineView) → InLeg v (λ leg. NoneMayGo leg v.stands.machine) → (h : Hart) (access other : Access) → IsStepFrom v.legs v.stands h access →
    other ≡ access
none_uses v none h access other step = absurd (none step.leg step.there step.hart step.next.may)

-- ---- points at a timeline's moment

module _ (points : List Point) (v : LineView) (leads : Leads v.legs (standing_at v.start) v.stands) (turned : IsTurned v.legs v.stands) where
  one_moment : (moment : ℕ) → v.stands.moment ≤ moment → moment < v.stands.moment + 1 → moment ≡ v.stands.moment
  one_moment moment from below = omega (arith, from, below)

  -- no hart may go
  pub none_breaks : ((leg : PlannedLeg) → slice_get v.legs v.stands.place ≡ Some leg → NoneMayGo leg v.stands.machine) →
      NoneFrom BreaksAt points v v.stands.moment (v.stands.moment + 1)
  none_breaks none = λ moment from below point has breaks.
      no_step v.legs v.start v.stands (λ h access. Breaks point h.pc) leads turned none
      (subst (λ (k : ℕ). BreaksAt v k point) (one_moment moment from below) breaks)

  -- none of the points is at this hart's step
  pub no_breaks : (h : Hart) (access : Access) → IsStepFrom v.legs v.stands h access → All (λ point. Breaks point h.pc → ⊥) points →
      NoneFrom BreaksAt points v v.stands.moment (v.stands.moment + 1)
  no_breaks h access step none = λ moment from below point has breaks.
      All-contains (λ (p : Point). Breaks p h.pc → ⊥) points point none has
      (fact_here v.legs v.start v.stands h access (λ k a. Breaks point k.pc) leads turned step
      (subst (λ (k : ℕ). BreaksAt v k point) (one_moment moment from below) breaks))

  pub breaks_here : (h : Hart) (access : Access) (number : ℕ) → IsStepFrom v.legs v.stands h access →
      ((point : Point) × (slice_get points number ≡ Some point) × Breaks point h.pc) → IsOne BreaksAt points v v.stands.moment number
  breaks_here h access number step (point, at, breaks) =
      (point, at, record { standing = v.stands; leads = leads; at = refl; hart = h; access = access; step = step; fact = breaks })

  -- none of the points watches what the step uses
  pub no_watches : (uses : Access) → ((h : Hart) (access : Access) → IsStepFrom v.legs v.stands h access → uses ≡ access) →
      All (λ point. Watches point uses → ⊥) points → NoneFrom WatchesAt points v v.stands.moment (v.stands.moment + 1)
  no_watches uses same none = λ moment from below point has watches.
      let there : StepAt v.legs v.start v.stands.moment (λ h access. Watches point access) =
      subst (λ (k : ℕ). WatchesAt v k point) (one_moment moment from below) watches in
      let is = same there.hart there.access (step_from v.legs v.start v.stands (λ h access. Watches point access) leads turned there) in
      All-contains (λ (p : Point). Watches p uses → ⊥) points point none has (subst (λ (a : Access). Watches point a) (sym is) there.fact)

  pub watches_here : (uses : Access) (number : ℕ) → ((uses ≡ Nothing → ⊥) → (h : Hart) × IsStepFrom v.legs v.stands h uses) →
      ((point : Point) × (slice_get points number ≡ Some point) × Watches point uses) → IsOne WatchesAt points v v.stands.moment number
  watches_here uses number step (point, at, watches) =
      let (h, from) = step (λ none. nothing_watched point (subst (λ (a : Access). Watches point a) none watches)) in
      (point, at, record { standing = v.stands; leads = leads; at = refl; hart = h; access = uses; step = from; fact = watches })
    where
      nothing_watched : (p : Point) → Watches p Nothing → ⊥
      nothing_watched (Break address) w = w
      nothing_watched (Watch watched bytes) w = w

  -- ---- from what a timeline's calls tell

  module _ (hart : ℕ) (place : v.stands.place < length v.legs) (next : InLeg v (λ leg. IsNext leg v.stands.machine hart)) (h : Hart)
      (found : slice_get v.stands.machine.harts hart ≡ Some h) (pc : ℕ) (pc_is : pc ≡ h.pc) where
    there : (leg : PlannedLeg) × (slice_get v.legs v.stands.place ≡ Some leg)
    there = leg_there v.legs v.stands.place place

    abbrev used : Access
    used = used_next v.stands.machine.pages (received_all ((log_of there.0).inputs hart h.count) h)

    step : IsStepFrom v.legs v.stands h used
    step = step_here v.legs v.stands there.0 hart h there.1 (next there.0 there.1) found

    pub broken_some : (result : Option ℕ) → IfSome result (λ n. (point : Point) × (slice_get points n ≡ Some point) × Breaks point pc) →
        IfSome result (IsOne BreaksAt points v v.stands.moment)
    broken_some result told =
        if_some (λ n. (point : Point) × (slice_get points n ≡ Some point) × Breaks point pc) (IsOne BreaksAt points v v.stands.moment) result
        (λ n one. breaks_here h used n step (one.0, one.1, subst (λ (k : ℕ). Breaks one.0 k) pc_is one.2)) told

    pub broken_none : (result : Option ℕ) → IfNone result (All (λ point. Breaks point pc → ⊥) points) →
        IfNone result (NoneFrom BreaksAt points v v.stands.moment (v.stands.moment + 1))
    broken_none result told =
        if_none (All (λ point. Breaks point pc → ⊥) points) (NoneFrom BreaksAt points v v.stands.moment (v.stands.moment + 1)) result
        (λ none. no_breaks h used step (subst (λ (k : ℕ). All (λ point. Breaks point k → ⊥) points) pc_is none)) told

  module _ (uses : Access) (result : Option ℕ) where
    pub watched_some : ((uses ≡ Nothing → ⊥) → (h : Hart) × IsStepFrom v.legs v.stands h uses) →
        IfSome result (λ n. (point : Point) × (slice_get points n ≡ Some point) × Watches point uses) →
        IfSome result (IsOne WatchesAt points v v.stands.moment)
    watched_some step told =
        if_some (λ n. (point : Point) × (slice_get points n ≡ Some point) × Watches point uses) (IsOne WatchesAt points v v.stands.moment) result
        (λ n one. watches_here uses n step one) told

    pub watched_none : ((h : Hart) (access : Access) → IsStepFrom v.legs v.stands h access → uses ≡ access) →
        IfNone result (All (λ point. Watches point uses → ⊥) points) →
        IfNone result (NoneFrom WatchesAt points v v.stands.moment (v.stands.moment + 1))
    watched_none same told =
        if_none (All (λ point. Watches point uses → ⊥) points) (NoneFrom WatchesAt points v v.stands.moment (v.stands.moment + 1)) result
        (λ none. no_watches uses same none) told
