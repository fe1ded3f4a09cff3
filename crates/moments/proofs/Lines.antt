-- What a timeline tells of its line, from what it keeps.
use Rattle.std.proofs.Common.{◌≡◌, inl, inr, ℕ, ◌+◌, ◌-◌, ◌<◌, ◌≤◌, List, [], ◌∷◌, ◌++◌, map, length, Option, Some, None, IfSome, IfNone, slice_get, Contains, refl, ap, sym, subst, ◌∙◌, arith}
use Rattle.std.specs.List.{AllByRecursion}
use Rattle.ft_types.specs.Counts.{count_at}
use Rattle.ft_types.specs.Guests.{GuestParts}
use Rattle.interleaving.proofs.Cuts.{here_or_later}
use Rattle.guest_image.specs.Machine.{MachineState}
use Rattle.hart_lease.specs.Runs.{counts_of}
use Rattle.hart_replay.specs.declared.plans.PlannedLeg.{PlannedLeg}
use Rattle.hart_replay.proofs.Fronts.{there}
use Rattle.least_cuts.proofs.Legs.{one_leg}
use Rattle.moments.specs.declared.snapshots.Snapshot.{Snapshot}
use Rattle.plan_lines.specs.Line.{LineView, InLeg, IsAt, IsNext, NoneMayGo, Standing, standing_at, Leads, ends_of, steps_of}
use Rattle.plan_lines.specs.Line.{Begins}
use Rattle.moments.specs.machinery.Machines.{standing_of}
use Rattle.plan_lines.specs.machinery.Kept.{IsBegun, Stands, IsTimeline, AreQuiet, QuietAt, IsTurned, OnLine}
use Rattle.moments.proofs.Keeping.{moment_within}
use Rattle.plan_lines.proofs.Standings.{last_is}
use Rattle.plan_lines.proofs.Rises.{counts_most, counts_all}

-- a timeline as contracts see it
abbrev pub line_of : GuestParts → List PlannedLeg → Standing → Standing → LineView
line_of guest legs first now = record { guest = guest; legs = legs; start = first.machine; stands = now }

-- one fact for another, where there is a value, or none
pub if_some : {A : Type 0} (P Q : A → Type 0) (o : Option A) → ((x : A) → P x → Q x) → IfSome o P → IfSome o Q
if_some P Q None f p = tt
if_some P Q (Some x) f p = f x p

pub if_none : {A : Type 0} (P Q : Type 0) (o : Option A) → (P → Q) → IfNone o P → IfNone o Q
if_none P Q None f p = f p
if_none P Q (Some x) f p = tt

-- a leg that was found is there
pub leg_below : (legs : List PlannedLeg) (place : ℕ) (leg : PlannedLeg) → slice_get legs place ≡ Some leg → place < length legs
leg_below legs place leg at = (there legs place leg at).0

-- where the last leg ends
pub ends_last : (legs : List PlannedLeg) (leg : PlannedLeg) → Some leg ≡ slice_get legs (length legs - 1) → leg.ends ≡ ends_of legs
ends_last legs leg is = last_is legs (length legs - 1) leg (sym is) (omega arith)

-- each kept snapshot is on the line
pub kept_stands : (legs : List PlannedLeg) (first : Standing) (kept : List Snapshot) (s : Snapshot) →
    AllByRecursion (Stands legs first) (map standing_of kept) → Contains kept s → Stands legs first (standing_of s)
kept_stands legs first [] s all (k, lt, is) = absurd (omega (arith, lt))
kept_stands legs first (x ∷ kept) s all has =
    elim (here_or_later x kept s has) [
      | inl same ↦ subst (λ (y : Snapshot). Stands legs first (standing_of y)) same all.0
      | inr later ↦ kept_stands legs first kept s all.1 later
    ]

-- and so they are with one more
pub kept_more : (legs : List PlannedLeg) (first : Standing) (kept : List Snapshot) (s : Snapshot) →
    AllByRecursion (Stands legs first) (map standing_of kept) → Stands legs first (standing_of s) →
    AllByRecursion (Stands legs first) (map standing_of (kept ++ s ∷ []))
kept_more legs first [] s all stands = (stands, tt)
kept_more legs first (x ∷ kept) s all stands = (all.0, kept_more legs first kept s all.1 stands)

-- the line's beginning is on it
pub first_stands : (guest : GuestParts) (legs : List PlannedLeg) (first : Standing) → IsBegun guest legs first → Stands legs first first
first_stands guest legs first begun =
    record { leads = Begins; place = let none : first.place ≡ 0 = ap (λ (s : Standing). s.place) begun.is in omega (arith, none) }

module _ (guest : GuestParts) (legs : List PlannedLeg) (first now : Standing) (snapshots : List Standing) (stops : List ℕ)
    (is : IsTimeline guest legs first now snapshots stops) where
  led_here : Leads legs (standing_at first.machine) now
  led_here = subst (λ (s : Standing). Leads legs s now) is.begun.is is.stands.leads

  -- the line leads to where a timeline stands
  pub at_here : (v : LineView) → line_of guest legs first now ≡ v → IsAt v.legs v.start now.moment v.stands.machine
  at_here v view = subst (λ (u : LineView). IsAt u.legs u.start now.moment u.stands.machine) view (now.place, led_here)

  pub within_here : (v : LineView) → line_of guest legs first now ≡ v → now.moment ≤ steps_of v.legs
  within_here v view = subst (λ (u : LineView). now.moment ≤ steps_of u.legs) view (moment_within guest legs first is.begun now is.stands)

  pub leads_here : (v : LineView) → line_of guest legs first now ≡ v → Leads v.legs (standing_at v.start) v.stands
  leads_here v view = subst (λ (u : LineView). Leads u.legs (standing_at u.start) u.stands) view led_here

  pub turned_here : (v : LineView) → line_of guest legs first now ≡ v → IsTurned v.legs v.stands
  turned_here v view = subst (λ (u : LineView). IsTurned u.legs u.stands) view is.turned

  -- what is on the line of a timeline is on its line as contracts see it, and the other way round
  pub on_line : (v : LineView) → line_of guest legs first now ≡ v → (t : Standing) → Stands legs first t → OnLine v t
  on_line v view t stands =
      subst (λ (u : LineView). OnLine u t) view (subst (λ (s : Standing). Stands legs s t) is.begun.is stands)

  pub of_line : (v : LineView) → line_of guest legs first now ≡ v → (t : Standing) → OnLine v t → Stands legs first t
  of_line v view t on =
      subst (λ (s : Standing). Stands legs s t) (sym is.begun.is) (subst (λ (u : LineView). OnLine u t) (sym view) on)

  -- it stands elsewhere on its line
  pub jumped : (there next : Standing) (marks : List ℕ) → Stands legs first there → ((s : Standing) → Leads legs s there → Leads legs s next) →
      next.place ≤ length legs - 1 → IsTurned legs next → QuietAt legs next marks → IsTimeline guest legs first next snapshots marks
  jumped there next marks stands on within turned quiet =
      record {
        begun = is.begun;
        stands = record { leads = on first stands.leads; place = within };
        kept = is.kept;
        turned = turned;
        quiet = quiet;
      }

  -- what was changed and is the same
  pub same_timeline : (next : Standing) (marks : List ℕ) → next ≡ now → marks ≡ stops → IsTimeline guest legs first next snapshots marks
  same_timeline next marks same quiet =
      subst (λ (s : Standing). IsTimeline guest legs first s snapshots marks) (sym same)
      (subst (λ (m : List ℕ). IsTimeline guest legs first now snapshots m) (sym quiet) is)

  pub same_line : (v : LineView) → line_of guest legs first now ≡ v → (next : Standing) → next ≡ now → line_of guest legs first next ≡ v
  same_line v view next same = ap (line_of guest legs first) same ∙ view

  -- a snapshot more is kept of where it stands
  pub kept_timeline : (kept : List Snapshot) (s : Snapshot) (next : Standing) → snapshots ≡ map standing_of kept → standing_of s ≡ now → next ≡ now →
      IsTimeline guest legs first next (map standing_of (kept ++ s ∷ [])) stops
  kept_timeline kept s next are same here =
      subst (λ (t : Standing). IsTimeline guest legs first t (map standing_of (kept ++ s ∷ [])) stops) (sym here)
      (record {
        begun = is.begun;
        stands = is.stands;
        kept =
            kept_more legs first kept s (subst (λ (l : List Standing). AllByRecursion (Stands legs first) l) are is.kept)
            (subst (λ (t : Standing). Stands legs first t) (sym same) is.stands);
        turned = is.turned;
        quiet = is.quiet;
      })

  -- elsewhere on its line
  pub moved_line : (v : LineView) → line_of guest legs first now ≡ v → (next : Standing) → line_of guest legs first next ≡ record v { stands = next }
  moved_line v view next = ap (λ (u : LineView). record u { stands = next }) view

  begun_there : IsBegun guest legs (standing_at first.machine)
  begun_there = subst (λ (s : Standing). IsBegun guest legs s) is.begun.is is.begun

  -- no hart has more steps at a moment than at the end of the line, and all at the last one
  pub most_at : (v : LineView) → line_of guest legs first now ≡ v → (moment : ℕ) (m : MachineState) → IsAt v.legs v.start moment m → (h : ℕ) →
      counts_of m h ≤ count_at (ends_of v.legs) h
  most_at v view moment m =
      subst (λ (u : LineView). IsAt u.legs u.start moment m → (h : ℕ) → counts_of m h ≤ count_at (ends_of u.legs) h) view
      (λ at. counts_most guest legs (standing_at first.machine) begun_there (record { place = at.0; moment = moment; machine = m }) at.1)

  pub all_at : (v : LineView) → line_of guest legs first now ≡ v → (m : MachineState) → IsAt v.legs v.start (steps_of v.legs) m → (h : ℕ) →
      counts_of m h ≡ count_at (ends_of v.legs) h
  all_at v view m =
      subst (λ (u : LineView). IsAt u.legs u.start (steps_of u.legs) m → (h : ℕ) → counts_of m h ≡ count_at (ends_of u.legs) h) view
      (λ at. counts_all guest legs (standing_at first.machine) begun_there (record { place = at.0; moment = steps_of legs; machine = m }) at.1 refl)

  -- ---- the hart that comes next, in the leg that was found

  module _ (v : LineView) (view : line_of guest legs first now ≡ v) (leg : PlannedLeg) (at : slice_get v.legs v.stands.place ≡ Some leg) where
    pub at_inside : slice_get legs now.place ≡ Some leg
    at_inside = subst (λ (u : LineView). slice_get u.legs u.stands.place ≡ Some leg) (sym view) at

    pub quiet_there : AreQuiet leg now.machine stops
    quiet_there = is.quiet leg at_inside

    pub next_there : (result : Option ℕ) → IfSome result (λ hart. IsNext leg now.machine hart) →
        IfSome result (λ hart. InLeg v (λ l. IsNext l v.stands.machine hart))
    next_there result told =
        subst (λ (u : LineView). IfSome result (λ hart. InLeg u (λ l. IsNext l u.stands.machine hart))) view
        (if_some (λ hart. IsNext leg now.machine hart) (λ hart. InLeg (line_of guest legs first now) (λ l. IsNext l now.machine hart)) result
        (λ hart next l found. subst (λ (x : PlannedLeg). IsNext x now.machine hart) (one_leg legs now.place leg l at_inside found) next) told)

    pub below_there : (result : Option ℕ) → IfSome result (λ hart. hart < length now.machine.harts) →
        IfSome result (λ hart. hart < length v.stands.machine.harts)
    below_there result told = subst (λ (u : LineView). IfSome result (λ hart. hart < length u.stands.machine.harts)) view told

    pub place_there : (result : Option ℕ) → IfSome result (λ hart. v.stands.place < length v.legs)
    place_there None = tt
    place_there (Some hart) = leg_below v.legs v.stands.place leg at

    pub none_there : (result : Option ℕ) → IfNone result (NoneMayGo leg now.machine) → IfNone result (InLeg v (λ l. NoneMayGo l v.stands.machine))
    none_there result told =
        subst (λ (u : LineView). IfNone result (InLeg u (λ l. NoneMayGo l u.stands.machine))) view
        (if_none (NoneMayGo leg now.machine) (InLeg (line_of guest legs first now) (λ l. NoneMayGo l now.machine)) result
        (λ none l found. subst (λ (x : PlannedLeg). NoneMayGo x now.machine) (one_leg legs now.place leg l at_inside found) none) told)

-- where no leg is, nothing is said of it
pub in_no_leg : (v : LineView) (P : PlannedLeg → Type 0) → length v.legs ≤ v.stands.place → InLeg v P
in_no_leg v P over leg at = let lt = leg_below v.legs v.stands.place leg at in absurd (omega (arith, lt, over))
