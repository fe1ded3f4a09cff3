-- The interleaving's machine at a cut, hart by hart and page by page.
use Rattle.std.specs.Prelude.{ℕ, ◌≡◌, ◌≤◌, ◌⊎◌, true, List, [], ◌∷◌, ◌++◌}
use Rattle.interleaving.specs.Lists.{Each}
use Rattle.interleaving.specs.Machine.{Machine, System, Turn, Step, Writes, counts, step_of, steps, inside, Runs, run, at}

module _ {Hart Page Input : Type 0} (system : System Hart Page Input) where
  -- the hart is as it was in the interleaving's run when its count was the cut's
  abbrev pub HartAsItWas : Type 0
  HartAsItWas =
      (m : Machine Hart Page) (front rest : List (Turn Input)) (cut : ℕ → ℕ) (hart : ℕ) →
      Runs system m (front ++ rest) → counts system (run system m front) hart ≡ cut hart →
      (at system m (front ++ rest) cut).harts hart ≡ (run system m front).harts hart

  -- and at some time its count was the cut's
  abbrev pub HartWasThere : Type 0
  HartWasThere =
      (m : Machine Hart Page) (turns : List (Turn Input)) (cut : ℕ → ℕ) (hart : ℕ) → Runs system m turns →
      counts system m hart ≤ cut hart → cut hart ≤ counts system (run system m turns) hart →
      (front rest : List (Turn Input)) × (turns ≡ front ++ rest) × (counts system (run system m front) hart ≡ cut hart)

  -- none of the steps that are inside the cut writes the page
  abbrev pub NoneWrites : (ℕ → ℕ) → ℕ → List (Step Hart Page Input) → Type 0
  NoneWrites cut page = Each (λ s. inside system cut s ≡ true → Writes s.effect page → ⊥)

  -- the turn after `front` is inside the cut and writes the page, and none does so later
  pub record IsLastWriter (m : Machine Hart Page) (front : List (Turn Input)) (t : Turn Input)
      (rest : List (Turn Input)) (cut : ℕ → ℕ) (page : ℕ) : Type 0 where
    pub is_inside : inside system cut (step_of system (run system m front) t) ≡ true
    pub writes : Writes (step_of system (run system m front) t).effect page
    pub none_later : NoneWrites cut page (steps system (run system m (front ++ t ∷ [])) rest)

  -- the page is as it was just after the last step inside the cut that wrote it
  abbrev pub PageAsItWas : Type 0
  PageAsItWas =
      (m : Machine Hart Page) (front : List (Turn Input)) (t : Turn Input) (rest : List (Turn Input)) (cut : ℕ → ℕ)
      (page : ℕ) → IsLastWriter m front t rest cut page →
      (at system m (front ++ t ∷ rest) cut).pages page ≡ (run system m (front ++ t ∷ [])).pages page

  -- or as at the start, where none wrote it
  abbrev pub PageUnwritten : Type 0
  PageUnwritten =
      (m : Machine Hart Page) (turns : List (Turn Input)) (cut : ℕ → ℕ) (page : ℕ) →
      NoneWrites cut page (steps system m turns) → (at system m turns cut).pages page ≡ m.pages page

  -- and there is no third case
  abbrev pub PageHasWriter : Type 0
  PageHasWriter =
      (m : Machine Hart Page) (turns : List (Turn Input)) (cut : ℕ → ℕ) (page : ℕ) →
      NoneWrites cut page (steps system m turns) ⊎
      ((front : List (Turn Input)) × (t : Turn Input) × (rest : List (Turn Input)) × (turns ≡ front ++ t ∷ rest) ×
      IsLastWriter m front t rest cut page)
