-- Runs, one after another.
use Rattle.std.proofs.Common.{ℕ, ◌≡◌, ◌≤◌, List, [], ◌∷◌, ◌++◌, map, refl, sym, ap, subst, ◌∙◌, arith, le_trans}
use Rattle.interleaving.specs.Lists.{IsWithin, Each}
use Rattle.interleaving.specs.Machine.{System, Machine, Turn, Step, after, counts, step_of, steps, Runs, run}
use Rattle.interleaving.specs.Log.{bump, counts_after, turns_of}
use Rattle.interleaving.proofs.Put.{bump_le}
use Rattle.interleaving.proofs.NextStep.{counts_step}
use Rattle.interleaving.proofs.Each.{each_more}

-- the harts of a beginning's turns are its order
pub harts_of_turns : {Input : Type 0} (inputs : ℕ → ℕ → Input) (now : ℕ → ℕ) (order : List ℕ) →
    map (λ t. t.hart) (turns_of inputs now order) ≡ order
harts_of_turns inputs now [] = refl
harts_of_turns inputs now (hart ∷ order) = ap (λ rest. hart ∷ rest) (harts_of_turns inputs (bump now hart) order)

module _ {Hart Page Input : Type 0} (system : System Hart Page Input) where
  pub steps_append : (m : Machine Hart Page) (xs ys : List (Turn Input)) →
      steps system m (xs ++ ys) ≡ steps system m xs ++ steps system (run system m xs) ys
  steps_append m [] ys = refl
  steps_append m (x ∷ xs) ys =
      ap (λ rest. step_of system m x ∷ rest) (steps_append (after m (step_of system m x)) xs ys)

  pub run_append : (m : Machine Hart Page) (xs ys : List (Turn Input)) →
      run system m (xs ++ ys) ≡ run system (run system m xs) ys
  run_append m [] ys = refl
  run_append m (x ∷ xs) ys = run_append (after m (step_of system m x)) xs ys

  pub runs_append : (m : Machine Hart Page) (xs ys : List (Turn Input)) → Runs system m xs →
      Runs system (run system m xs) ys → Runs system m (xs ++ ys)
  runs_append m [] ys h k = k
  runs_append m (x ∷ xs) ys h k = (h.0, runs_append (after m (step_of system m x)) xs ys h.1 k)

  -- the front of what runs, runs
  pub runs_front : (m : Machine Hart Page) (xs ys : List (Turn Input)) → Runs system m (xs ++ ys) → Runs system m xs
  runs_front m [] ys runs = tt
  runs_front m (x ∷ xs) ys runs = (runs.0, runs_front (after m (step_of system m x)) xs ys runs.1)

  -- each hart's count only grows
  pub counts_grow : (m : Machine Hart Page) (turns : List (Turn Input)) → Runs system m turns →
      IsWithin (counts system m) (counts system (run system m turns))
  counts_grow m [] runs hart = omega arith
  counts_grow m (a ∷ turns) runs hart =
      le_trans
      (subst (λ n. counts system m hart ≤ n hart) (sym (counts_step system m a runs.0))
      (bump_le (counts system m) a.hart hart))
      (counts_grow (after m (step_of system m a)) turns runs.1 hart)

  -- the counts that a run leaves are those of its harts' order
  pub counts_run : (m : Machine Hart Page) (turns : List (Turn Input)) → Runs system m turns →
      counts system (run system m turns) ≡ counts_after (counts system m) (map (λ t. t.hart) turns)
  counts_run m [] runs = refl
  counts_run m (a ∷ turns) runs =
      counts_run (after m (step_of system m a)) turns runs.1 ∙
      ap (λ n. counts_after n (map (λ t. t.hart) turns)) (counts_step system m a runs.0)

  -- each step's number is its hart's count
  abbrev pub InTurn : (ℕ → ℕ) → List (Step Hart Page Input) → Type 0
  InTurn now [] = Unit {0}
  InTurn now (t ∷ rest) = (system.count t.found ≡ now t.hart) × InTurn (bump now t.hart) rest

  pub in_turn : (m : Machine Hart Page) (turns : List (Turn Input)) → Runs system m turns →
      InTurn (counts system m) (steps system m turns)
  in_turn m [] runs = tt
  in_turn m (t ∷ turns) runs = (
    refl,
    subst (λ n. InTurn n (steps system (after m (step_of system m t)) turns)) (counts_step system m t runs.0)
        (in_turn (after m (step_of system m t)) turns runs.1),
  )

  -- each step comes at or after its hart's count
  pub from_now : (now : ℕ → ℕ) (xs : List (Step Hart Page Input)) → InTurn now xs →
      Each (λ s. now s.hart ≤ system.count s.found) xs
  from_now now [] turn = tt
  from_now now (t ∷ rest) turn = (
    (let e : system.count t.found ≡ now t.hart = turn.0 in omega arith),
    each_more (λ s. bump now t.hart s.hart ≤ system.count s.found) (λ s. now s.hart ≤ system.count s.found)
        (λ s le. le_trans (bump_le now t.hart s.hart) le) rest (from_now (bump now t.hart) rest turn.1),
  )
