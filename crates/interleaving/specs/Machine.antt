-- A machine of harts and pages, its steps, and its runs.
use Rattle.std.specs.Prelude.{ℕ, ◌≡◌, ◌+◌, Bool, false, List, [], ◌∷◌, Option, Some, None, MatchOption, Contains, filter, nat_lt}
use Rattle.interleaving.specs.Lists.{put, Each}

-- the state of each hart, and the contents of each page, by number
pub record Machine (Hart Page : Type 0) : Type 0 where
  pub harts : ℕ → Hart
  pub pages : ℕ → Page

-- a page's new contents
pub record Write (Page : Type 0) : Type 0 where
  pub page : ℕ
  pub contents : Page

-- what a step does
pub record Effect (Hart Page : Type 0) : Type 0 where
  pub hart : Hart  -- the hart's new state
  pub touched : List ℕ  -- the pages that it reads or writes
  pub write : Option (Write Page)

-- the step writes the page
abbrev pub Writes : {Hart Page : Type 0} → Effect Hart Page → ℕ → Type 0
Writes effect page = MatchOption effect.write ⊥ (λ w. w.page ≡ page)

-- what a hart does in a step, by its state, its inputs and the pages; a halted hart takes none, whatever `effect` says
pub record System (Hart Page Input : Type 0) : Type 0 where
  pub count : Hart → ℕ  -- how many steps it has taken
  pub halted : Hart → Bool
  pub effect : Hart → Input → (ℕ → Page) → Effect Hart Page
  -- a step counts itself
  pub counted : (hart : Hart) (input : Input) (pages : ℕ → Page) → halted hart ≡ false →
      count (effect hart input pages).hart ≡ count hart + 1
  -- a page that is written is touched
  pub within : (hart : Hart) (input : Input) (pages : ℕ → Page) (page : ℕ) → halted hart ≡ false →
      Writes (effect hart input pages) page → Contains (effect hart input pages).touched page
  -- pages that are not touched do not matter
  pub local : (hart : Hart) (input : Input) (pages others : ℕ → Page) → halted hart ≡ false →
      ((page : ℕ) → Contains (effect hart input pages).touched page → pages page ≡ others page) →
      effect hart input pages ≡ effect hart input others

-- one entry of an interleaving: the hart that goes, and its inputs
pub record Turn (Input : Type 0) : Type 0 where
  pub hart : ℕ
  pub input : Input

-- a step that was taken: by which hart, which state it found there, on which inputs, to what effect
pub record Step (Hart Page Input : Type 0) : Type 0 where
  pub hart : ℕ
  pub found : Hart
  pub input : Input
  pub effect : Effect Hart Page

-- the pages after the write, where there is one
abbrev pub written : {Page : Type 0} → (ℕ → Page) → Option (Write Page) → ℕ → Page
written pages None = pages
written pages (Some w) = put pages w.page w.contents

-- the machine after the step's effect
abbrev pub after : {Hart Page Input : Type 0} → Machine Hart Page → Step Hart Page Input → Machine Hart Page
after m s = record { harts = put m.harts s.hart s.effect.hart; pages = written m.pages s.effect.write }

-- the machine after the effects of these steps, in order
abbrev pub after_all : {Hart Page Input : Type 0} → Machine Hart Page → List (Step Hart Page Input) → Machine Hart Page
after_all m [] = m
after_all m (s ∷ rest) = after_all (after m s) rest

module _ {Hart Page Input : Type 0} (system : System Hart Page Input) where
  -- how many steps each hart has taken
  abbrev pub counts : Machine Hart Page → ℕ → ℕ
  counts m hart = system.count (m.harts hart)

  -- the step that the turn takes on this machine
  abbrev pub step_of : Machine Hart Page → Turn Input → Step Hart Page Input
  step_of m t =
      record {
        hart = t.hart;
        found = m.harts t.hart;
        input = t.input;
        effect = system.effect (m.harts t.hart) t.input m.pages;
      }

  -- the steps of an interleaving, in order
  abbrev pub steps : Machine Hart Page → List (Turn Input) → List (Step Hart Page Input)
  steps m [] = []
  steps m (t ∷ rest) = step_of m t ∷ steps (after m (step_of m t)) rest

  -- the interleaving has a run: no turn is of a halted hart
  abbrev pub Runs : Machine Hart Page → List (Turn Input) → Type 0
  Runs m turns = Each (λ s. system.halted s.found ≡ false) (steps m turns)

  -- the machine that the interleaving leaves
  abbrev pub run : Machine Hart Page → List (Turn Input) → Machine Hart Page
  run m turns = after_all m (steps m turns)

  -- the step is one of its hart's first cut(hart)
  abbrev pub inside : (ℕ → ℕ) → Step Hart Page Input → Bool
  inside cut s = nat_lt (system.count s.found) (cut s.hart)

  -- the interleaving's machine at a cut: the effects of the steps inside it, in the interleaving's order
  abbrev pub at : Machine Hart Page → List (Turn Input) → (ℕ → ℕ) → Machine Hart Page
  at m turns cut = after_all m (filter (inside cut) (steps m turns))
