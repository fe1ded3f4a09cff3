-- Whether legs, the last of which is cut, begin others; and where legs lead to.
use Rattle.std.proofs.Common.{◌≡◌, ◌↔◌, ◌<◌, ◌+◌, ◌-◌, ◌++◌, ◌∷◌, ℕ, List, [], length, take, get_or, refl, sym, ap, subst, ◌∙◌, arith, length-append}
use Rattle.std.proofs.Math.Seq.{get_or-append_seam}
use Rattle.std.proofs.lemmas.List.{take_all, take_more}
use Rattle.guest_image.specs.Image.{ImageContents, guest_of}
use Rattle.guest_image.specs.Machine.{MachineState}
use Rattle.hart_replay.specs.declared.plans.PlannedLeg.{PlannedLeg}
use Rattle.hart_replay.specs.GoingOn.{BeginsLeg, GoOnFrom, IsFront}
use Rattle.hart_replay.specs.Plans.{IsPlan}
use Rattle.hart_replay.specs.Replays.{IsOutcome}
use Rattle.hart_replay.specs.machinery.Going.{IsAt, LeadsOn}
use Rattle.hart_replay.proofs.Along.{all_led, goes_on_from, goes_to_next}
use Rattle.hart_replay.proofs.Fronts.{front_of, go_on_is, go_on_of, many_alike, next_is}
use Rattle.edge_log.specs.EdgeLog.{IsLog}
use Rattle.hart_replay.specs.KeepingUp.{KeepsUp}
use Rattle.warm_backup.specs.declared.stand.Stand.{Stand}
use Rattle.warm_backup.specs.declared.stand.Stand.TheVariants.{Boot, Led}
use Rattle.warm_backup.specs.machinery.Working.{cut_leg, legs_of, machine_in, machine_of, HasNoFront}

taken : (front : List PlannedLeg) (cut : PlannedLeg) → take (length front) (front ++ cut ∷ []) ≡ front
taken [] cut = refl
taken (leg ∷ front) cut = ap (λ (xs : List PlannedLeg). leg ∷ xs) (taken front cut)

module _ (front : List PlannedLeg) (cut : PlannedLeg) (legs : List PlannedLeg) where
  abbrev old : List PlannedLeg
  old = front ++ cut ∷ []

  many : length front + 1 ≡ length old
  many = let all = length-append front (cut ∷ []) in omega (arith, all)

  module _ (next : PlannedLeg) (within : length front < length legs) (is : next ≡ get_or legs (length front) next) where
    first : cut ≡ get_or old (length front) cut
    first = sym (get_or-append_seam front cut [] cut)

    pub begins_by_parts : IsFront front legs → BeginsLeg cut next ↔ GoOnFrom old legs
    begins_by_parts is_front = (
      λ begins.
          go_on_is old legs (length front) cut next many first within is (subst (λ (xs : List PlannedLeg). IsFront xs legs) (sym (taken front cut)) is_front)
          begins,
      λ on. (go_on_of old legs (length front) cut next many first within is on).1,
    )

  -- the legs before the last begin the others
  pub front_begins : GoOnFrom old legs → IsFront front legs
  front_begins on =
      let last : length old - 1 ≡ length front = let m = many in omega (arith, m) in
      subst (λ (xs : List PlannedLeg). IsFront xs legs) (taken front cut)
      (subst (λ (n : ℕ). IsFront (take n old) legs) last (front_of old legs on))

  -- and there are more of those
  pub more_legs : GoOnFrom old legs → length front < length legs
  more_legs on =
      let was : length old ≡ length on.front + 1 = ap length on.was ∙ length-append on.front (on.last ∷ []) in
      let is : length legs ≡ length (on.same ++ on.next ∷ on.back) = ap length on.is in
      let more = length-append on.same (on.next ∷ on.back) in
      let m = many in
      omega (arith, was, is, more, m, many_alike on.front on.same on.alike)

-- ---- the last leg led on

module _ (image : ImageContents) (legs : List PlannedLeg) (plan : IsPlan (guest_of image) legs) (last : ℕ) (all : last + 1 ≡ length legs) (leg : PlannedLeg)
    (is : leg ≡ get_or legs last leg) where
  pub parts : legs ≡ take last legs ++ leg ∷ []
  parts =
      sym (take_all (last + 1) legs (omega (arith, all))) ∙
      (take_more legs last leg (omega (arith, all)) ∙ ap (λ (x : PlannedLeg). take last legs ++ x ∷ []) (sym is))

  pub outcome : (machine : MachineState) → IsAt image legs last machine → (n : MachineState) → LeadsOn leg machine n → IsOutcome image legs n
  outcome machine at n leads =
      all_led image legs plan (last + 1) n (omega (arith, all)) (goes_to_next image legs plan last machine at leg (omega (arith, all)) is n leads)

-- ---- from where it stands

pub at_here : (image : ImageContents) (front : List PlannedLeg) (stand : Stand) (counts : List ℕ) (legs : List PlannedLeg) → IsPlan (guest_of image) legs →
    KeepsUp image (legs_of front stand counts) (machine_of stand) → HasNoFront stand front → GoOnFrom (legs_of front stand counts) legs → (next : PlannedLeg) →
    next ≡ get_or legs (length front) next → IsLog next.edges.start next.edges.rows → IsAt image legs (length front) (machine_of stand)
at_here image front (Boot m) counts legs plan keeps none on next is log =
    let empty = ap length none in
    let all = ap length on.was in
    let more = length-append on.front (on.last ∷ []) in
    absurd (omega (arith, empty, all, more))
at_here image front (Led w) counts legs plan keeps none on next is log =
    let old = front ++ cut_leg w counts ∷ [] in
    let all = many front (cut_leg w counts) legs in
    let same : on.next ≡ next = next_is old legs on (length front) next all (more_legs front (cut_leg w counts) legs on) is in
    goes_on_from image old legs (machine_in w) keeps plan on
    (subst (λ (leg : PlannedLeg). IsLog leg.edges.start leg.edges.rows) (sym same) log) (length front) all
