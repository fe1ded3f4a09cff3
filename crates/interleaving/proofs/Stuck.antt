-- What is stuck below a cut cannot go on; what can do neither is at the cut.
use Rattle.std.proofs.Common.{◌≡◌, ◌⊎◌, inl, inr, ℕ, zero, suc, ◌<◌, ◌≤◌, true, List, [], ◌∷◌, sym, subst, ◌∙◌, arith, true≢false}
use Rattle.std.proofs.lemmas.Bool.{cases_Bool, cases_lt}
use Rattle.std.proofs.lemmas.List.Elements.{Contains-append_right}
use Rattle.interleaving.specs.Machine.{Machine, System}
use Rattle.interleaving.specs.Log.{Edge, IsMet, HasUnmet, GoesOn, StuckCannotGoOn, OneOfThree}
use Rattle.interleaving.proofs.Put.{same_or_not}
use Rattle.interleaving.proofs.Cuts.{here, here_or_later}

pub stuck_cannot_go_on : {Hart Page Input : Type 0} (system : System Hart Page Input) → StuckCannotGoOn system
stuck_cannot_go_on system edges cut now m stuck (next, (less, met), runs) =
    elim (stuck.held next less) [
      | inl halted ↦ true≢false (sym halted ∙ runs)
      | inr (e, is_edge, here_is, stands, short) ↦
          let h : e.count ≤ now e.other = met e is_edge here_is stands in absurd (omega arith)
    ]

-- the hart's edges are met, or one is not
pub met_or_unmet : (edges : List Edge) (now : ℕ → ℕ) (hart : ℕ) → IsMet edges now hart ⊎ HasUnmet edges now hart
met_or_unmet [] now hart = inl (λ e (k, below, is). absurd (omega arith))
met_or_unmet (x ∷ edges) now hart =
    elim (met_or_unmet edges now hart) [
      | inr (e, is_edge, here_is, stands, short) ↦
          inr (e, Contains-append_right (x ∷ []) edges e is_edge, here_is, stands, short)
      | inl met ↦
          elim (same_or_not x.hart hart) [
            | inr ne ↦ inl (with_first met (λ here_is stands. absurd (ne here_is)))
            | inl here_is ↦
                elim (same_or_not x.step (now hart)) [
                  | inr ne ↦ inl (with_first met (λ here_is stands. absurd (ne stands)))
                  | inl stands ↦
                      elim (cases_lt (now x.other) x.count) [
                        | inl short ↦ inr (x, here x edges, here_is, stands, short)
                        | inr fine ↦ inl (with_first met (λ here_is stands. fine))
                      ]
                ]
          ]
    ]
  where
    with_first : IsMet edges now hart → (x.hart ≡ hart → x.step ≡ now hart → x.count ≤ now x.other) →
        IsMet (x ∷ edges) now hart
    with_first met first e is_edge =
        elim (here_or_later x edges e is_edge) [
          | inl is ↦
              let P : Edge → Type 0 = λ e. e.hart ≡ hart → e.step ≡ now hart → e.count ≤ now e.other in subst P is first
          | inr later ↦ met e later
        ]

module _ {Hart Page Input : Type 0} (system : System Hart Page Input) (edges : List Edge) (cut now : ℕ → ℕ)
    (m : Machine Hart Page) where
  -- what holds a hart that is below the cut
  abbrev IsHeld : ℕ → Type 0
  IsHeld hart = now hart < cut hart → (system.halted (m.harts hart) ≡ true) ⊎ HasUnmet edges now hart

  goes_or_held : (hart : ℕ) → GoesOn system edges cut now m ⊎ IsHeld hart
  goes_or_held hart =
      elim (cases_Bool (system.halted (m.harts hart))) [
        | inl halted ↦ inr (λ below. inl halted)
        | inr runs ↦
            elim (met_or_unmet edges now hart) [
              | inr unmet ↦ inr (λ below. inr unmet)
              | inl met ↦
                  elim (cases_lt (now hart) (cut hart)) [
                    | inl below ↦ inl (hart, (below, met), runs)
                    | inr reached ↦ inr (λ below. absurd (omega arith))
                  ]
            ]
      ]

  -- of the first harts one goes on, or each is held
  goes_or_all_held : (crew : ℕ) → GoesOn system edges cut now m ⊎ ((hart : ℕ) → hart < crew → IsHeld hart)
  goes_or_all_held zero = inr (λ hart less. absurd (omega arith))
  goes_or_all_held (suc crew) =
      elim (goes_or_all_held crew) [
        | inl goes ↦ inl goes
        | inr held ↦
            elim (goes_or_held crew) [
              | inl goes ↦ inl goes
              | inr last ↦
                  inr
                  (λ hart less.
                  elim (cases_lt hart crew) [
                    | inl earlier ↦ held hart earlier
                    | inr over ↦ let is : crew ≡ hart = omega arith in subst IsHeld is last
                  ])
            ]
      ]

  -- of the first harts one is below the cut, or each has reached it
  below_or_reached : (crew : ℕ) →
      ((hart : ℕ) × (now hart < cut hart)) ⊎ ((hart : ℕ) → hart < crew → cut hart ≤ now hart)
  below_or_reached zero = inr (λ hart less. absurd (omega arith))
  below_or_reached (suc crew) =
      elim (below_or_reached crew) [
        | inl one ↦ inl one
        | inr reached ↦
            elim (cases_lt (now crew) (cut crew)) [
              | inl below ↦ inl (crew, below)
              | inr last ↦
                  inr
                  (λ hart less.
                  elim (cases_lt hart crew) [
                    | inl earlier ↦ reached hart earlier
                    | inr over ↦ let is : crew ≡ hart = omega arith in subst (λ h. cut h ≤ now h) is last
                  ])
            ]
      ]

pub one_of_three : {Hart Page Input : Type 0} (system : System Hart Page Input) → OneOfThree system
one_of_three system edges cut now m crew others =
    elim (below_or_reached system edges cut now m crew) [
      | inr reached ↦
          inl (λ hart. elim (cases_lt hart crew) [ inl earlier ↦ reached hart earlier | inr over ↦ others hart over ])
      | inl below ↦
          elim (goes_or_all_held system edges cut now m crew) [
            | inl goes ↦ inr (inl goes)
            | inr held ↦
                inr
                (inr
                (record {
                  below = below;
                  held =
                      λ hart less.
                      elim (cases_lt hart crew) [
                        | inl earlier ↦ held hart earlier less
                        | inr over ↦ let h : cut hart ≤ now hart = others hart over in absurd (omega arith)
                      ];
                }))
          ]
    ]
