-- What came of a leg, as edges from the counts reached on: it lets the same steps go as the leg does.
use Rattle.std.proofs.Common.{◌≡◌, ◌+◌, ◌<◌, ◌≤◌, ◌++◌, inl, inr, ℕ, List, [], ◌∷◌, Contains, sym, ap, subst, ◌∙◌, arith, le_refl}
use Rattle.std.proofs.lemmas.Bool.{cases_lt, cases_eq}
use Rattle.std.proofs.lemmas.List.Elements.{Contains-append_cases, Contains-append_right}
use Rattle.interleaving.specs.Lists.{IsWithin}
use Rattle.interleaving.specs.Log.{Edge, Begins, HasUnmet, IsClosed, IsMet, bump, counts_after}
use Rattle.interleaving.specs.Cuts.{IsEnough}
use Rattle.interleaving.proofs.Cuts.{same_order}
use Rattle.interleaving.proofs.Put.{bump_le, put_same, put_other}
use Rattle.hart_replay.proofs.honesty.Schedules.{begins_too}

module _ (whole rest all added : List Edge) (start now : ℕ → ℕ) (low : IsWithin start now) (enough : IsEnough whole (all ++ added) start)
    (rest_enough : IsEnough rest added now) (early : (e : Edge) → Contains all e → e.step < now e.hart)
    (late : (e : Edge) → Contains added e → now e.hart ≤ e.step) (closed : IsClosed all now) where
  -- the whole leg's edges say all from there on too
  pub closed_there : IsClosed whole now
  closed_there e has less =
      elim (Contains-append_cases all added e (enough.among e has)) [
        | inl before ↦ closed e before less
        | inr came ↦ let no = late e came in absurd (omega (arith, no, less))
      ]

  raised : IsEnough whole (all ++ added) now
  raised =
      record {
        among = enough.among;
        implied =
            λ e has.
            elim (enough.implied e has) [
              | inl le ↦ (let up = low e.other in inl (omega (arith, le, up)))
              | inr by ↦ inr by
            ];
        start_closed = closed_there;
      }

  -- what came before is of steps that were taken
  adds_all : (cut : ℕ → ℕ) (order : List ℕ) → Begins added cut now order → Begins (all ++ added) cut now order
  adds_all cut order begins =
      begins_too (all ++ added) added now cut
      (λ e has from less.
      elim (Contains-append_cases all added e has) [
        | inl before ↦ let no = early e before in absurd (omega (arith, no, from))
        | inr came ↦ came
      ]) order now (λ i. le_refl (now i)) begins

  pub begins_whole : (cut : ℕ → ℕ) (order : List ℕ) → Begins rest cut now order → Begins whole cut now order
  begins_whole cut order begins =
      ((same_order whole (all ++ added) now raised).schedules cut order).1
      (adds_all cut order (((same_order rest added now rest_enough).schedules cut order).0 begins))

  -- a hart that waits for what came, where all is met that its harts went past, waits by the whole leg
  pub waits_whole : (counts : ℕ → ℕ) → IsWithin now counts → IsClosed whole counts → (hart : ℕ) → HasUnmet rest counts hart → HasUnmet whole counts hart
  waits_whole counts up met hart (e, has, own, at, unmet) =
      elim (raised.implied e (Contains-append_right all added e (rest_enough.among e has))) [
        | inl le ↦ (let u = up e.other in absurd (omega (arith, le, u, unmet)))
        | inr (by, there, same, other, upto, much) ↦
            (let lack : counts by.other < by.count =
            subst (λ (k : ℕ). counts k < by.count) (sym other) (omega (arith, unmet, much)) in
            elim (cases_lt by.step (counts by.hart)) [
              | inl past ↦ (let no = met by there past in absurd (omega (arith, no, lack)))
              | inr here ↦
                  (let is : counts by.hart ≡ counts hart = ap counts (same ∙ own) in
                  (by, there, same ∙ own, omega (arith, upto, at, here, is), lack))
            ])
      ]

-- the counts that a schedule leads to are a cut
bump_met : (edges : List Edge) (now : ℕ → ℕ) (hart : ℕ) → IsClosed edges now → IsMet edges now hart → IsClosed edges (bump now hart)
bump_met edges now hart closed met e has less =
    let le = bump_le now hart e.other in
    elim (cases_eq e.hart hart) [
      | inl own ↦
          (let count : bump now hart e.hart ≡ now hart + 1 = put_same now hart e.hart (now hart + 1) (sym own) in
          elim (cases_lt e.step (now hart)) [
            | inl before ↦
                (let was = closed e has (let same : now e.hart ≡ now hart = ap now own in omega (arith, before, same)) in omega (arith, was, le))
            | inr here ↦ (let was = met e has own (omega (arith, here, less, count)) in omega (arith, was, le))
          ])
      | inr ne ↦
          (let count : bump now hart e.hart ≡ now e.hart = put_other now hart e.hart (now hart + 1) (λ same. ne (sym same)) in
          let was = closed e has (omega (arith, less, count)) in omega (arith, was, le))
    ]

pub closed_on : (edges : List Edge) (cut now : ℕ → ℕ) (order : List ℕ) → Begins edges cut now order → IsClosed edges now →
    IsClosed edges (counts_after now order)
closed_on edges cut now [] begins closed = closed
closed_on edges cut now (hart ∷ order) begins closed =
    closed_on edges cut (bump now hart) order begins.1 (bump_met edges now hart closed begins.0.1)
