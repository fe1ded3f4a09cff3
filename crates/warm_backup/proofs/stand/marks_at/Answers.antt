use Rattle.std.proofs.Common.{◌≡◌, ◌++◌, ◌∷◌, [], ℕ, List, Some, All, length, max, refl, subst, sym, ap, arith, ◌∙◌}
use Rattle.std.proofs.lemmas.List.Elements.{All-pop}
use Rattle.ft_types.specs.Counts.{count_at}
use Rattle.hart_replay.specs.declared.plans.PlannedLeg.{PlannedLeg}
use Rattle.hart_replay.specs.Plans.{noted_in}
use Rattle.hart_replay.proofs.walking.Marks.{greater_at}
use Rattle.warm_backup.specs.declared.stand.Stand.{Stand}
use Rattle.warm_backup.specs.declared.stand.Stand.TheVariants.{Boot, Led}
use Rattle.warm_backup.specs.declared.work.Work.{Work}
use Rattle.warm_backup.specs.machinery.Working.{cut_leg, legs_of}
use Rattle.warm_backup.proofs.stand.marks_at.Goals as goal

-- what is noted in a last leg too
noted_behind : (front : List PlannedLeg) (leg : PlannedLeg) (hart : ℕ) →
    noted_in (front ++ leg ∷ []) hart ≡ max (noted_in front hart) (count_at leg.marks hart)
noted_behind [] leg hart = omega arith
noted_behind (first ∷ front) leg hart = omega (arith, noted_behind front leg hart)

-- the legs but the last are legs
fronts : (P : PlannedLeg → Type 0) (front : List PlannedLeg) (stand : Stand) (counts : List ℕ) → All P (legs_of front stand counts) → All P front
fronts P front (Boot m) counts all = all
fronts P front (Led w) counts all = (All-pop P (front ++ cut_leg w counts ∷ []) front (Some (cut_leg w counts)) refl all).0

pub marks_of-before-requires-clause-marks : goal.marks_of-before-requires-clause-marks
marks_of-before-requires-clause-marks c =
    fronts (λ leg. length leg.marks ≡ c.args.harts) c.args.front.now c.args.stand.now c.args._position.now.counts c.requires.marks

last_marks : (harts : ℕ) (front : List PlannedLeg) (stand : Stand) (w : Work) (counts : List ℕ) → stand ≡ Led w →
    All (λ (leg : PlannedLeg). length leg.marks ≡ harts) (legs_of front stand counts) → length w.leg.marks ≡ harts
last_marks harts front stand w counts is all =
    (All-pop (λ (leg : PlannedLeg). length leg.marks ≡ harts) (front ++ cut_leg w counts ∷ []) front (Some (cut_leg w counts)) refl
    (subst (λ (s : Stand). All (λ (leg : PlannedLeg). length leg.marks ≡ harts) (legs_of front s counts)) is all)).1

pub max-requires : goal.max-requires
max-requires c =
    c.marks_of-before.ensures.harts
    ∙ sym (ap length c.marks.ensures ∙ last_marks c.args.harts c.args.front.now c.args.stand.now c.in-Led.work c.args._position.now.counts c.in-Led.is c.requires.marks)

pub returns-in-Led : goal.returns-in-Led
returns-in-Led c = λ hart.
    let front = c.args.front.now in
    let w = c.in-Led.work in
    let counts = c.args._position.now.counts in
    let same : length c.marks_of-before.result ≡ length c.marks.result
    = c.marks_of-before.ensures.harts
    ∙ sym (ap length c.marks.ensures ∙ last_marks c.args.harts front c.args.stand.now w counts c.in-Led.is c.requires.marks) in
    ap (λ (m : List ℕ). count_at m hart) c.max.ensures
    ∙ greater_at c.marks_of-before.result c.marks.result same hart
    ∙ ap (λ n. max n (count_at c.marks.result hart)) (c.marks_of-before.ensures.greatest hart)
    ∙ ap (λ (m : List ℕ). max (noted_in front hart) (count_at m hart)) c.marks.ensures
    ∙ sym (noted_behind front (cut_leg w counts) hart)
    ∙ ap (λ (s : Stand). noted_in (legs_of front s counts) hart) (sym c.in-Led.is)
