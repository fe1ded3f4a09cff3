-- Orders of a log, with one hart more at their end too, and the steps of their runs.
use Rattle.std.proofs.Common.{◌≡◌, inl, inr, ℕ, ◌+◌, ◌<◌, ◌≤◌, List, [], ◌∷◌, ◌++◌, Contains, refl, sym, ap, ◌∙◌, arith}
use Rattle.std.proofs.lemmas.Bool.{cases_lt}
use Rattle.interleaving.specs.Lists.{Each, IsWithin}
use Rattle.interleaving.specs.Machine.{System, Machine, Turn, Writes, after, counts, step_of, steps, Runs, run}
use Rattle.interleaving.specs.Log.{Edge, Log, Begins, MayGo, EachMet, HasInputs, bump, counts_after, turns_of}
use Rattle.interleaving.proofs.NextStep.{counts_step}
use Rattle.interleaving.proofs.Put.{same_or_not, put_same, bump_same, bump_other}
use Rattle.interleaving.proofs.Runs.{counts_grow}

pub counts_after_more : (now : ℕ → ℕ) (order : List ℕ) (hart : ℕ) → counts_after now (order ++ hart ∷ []) ≡ bump (counts_after now order) hart
counts_after_more now [] hart = refl
counts_after_more now (next ∷ order) hart = counts_after_more (bump now next) order hart

pub begins_more : (edges : List Edge) (cut now : ℕ → ℕ) (order : List ℕ) (hart : ℕ) → Begins edges cut now order →
    MayGo edges cut (counts_after now order) hart → Begins edges cut now (order ++ hart ∷ [])
begins_more edges cut now [] hart begins goes = (goes, tt)
begins_more edges cut now (next ∷ order) hart begins goes = (begins.0, begins_more edges cut (bump now next) order hart begins.1 goes)

pub turns_more : {Input : Type 0} (inputs : ℕ → ℕ → Input) (now : ℕ → ℕ) (order : List ℕ) (hart : ℕ) →
    turns_of inputs now (order ++ hart ∷ []) ≡ turns_of inputs now order ++ record { hart = hart; input = inputs hart (counts_after now order hart) } ∷ []
turns_more inputs now [] hart = refl
turns_more inputs now (next ∷ order) hart =
    ap (λ turns. record { hart = next; input = inputs next (now next) } ∷ turns) (turns_more inputs (bump now next) order hart)

-- a beginning goes no further than the cut
pub begins_within : (edges : List Edge) (cut now : ℕ → ℕ) (order : List ℕ) → Begins edges cut now order → IsWithin now cut →
    IsWithin (counts_after now order) cut
begins_within edges cut now [] begins within = within
begins_within edges cut now (next ∷ order) ((less, met), rest) within =
    begins_within edges cut (bump now next) order rest still
  where
    still : (hart : ℕ) → bump now next hart ≤ cut hart
    still hart =
        elim (same_or_not next hart) [
          | inl same ↦
              let one : bump now next hart ≡ now next + 1 = put_same now next hart (now next + 1) same in
              let end : cut next ≡ cut hart = ap cut same in
              omega (arith, one, end, less)
          | inr ne ↦
              let as_before : bump now next hart ≡ now hart = bump_other now next hart ne in
              let le : now hart ≤ cut hart = within hart in
              omega (arith, as_before, le)
        ]

module _ {Hart Page Input : Type 0} (system : System Hart Page Input) where
  -- each step's number is below what its hart comes to
  pub steps_below : (m : Machine Hart Page) (turns : List (Turn Input)) → Runs system m turns →
      Each (λ s. system.count s.found < counts system (run system m turns) s.hart) (steps system m turns)
  steps_below m [] runs = tt
  steps_below m (t ∷ turns) runs = (first, steps_below (after m (step_of system m t)) turns runs.1)
    where
      first : system.count (m.harts t.hart) < counts system (run system (after m (step_of system m t)) turns) t.hart
      first =
          let now : counts system (after m (step_of system m t)) t.hart ≡ bump (counts system m) t.hart t.hart =
          ap (λ (n : ℕ → ℕ). n t.hart) (counts_step system m t runs.0) in
          let one : bump (counts system m) t.hart t.hart ≡ counts system m t.hart + 1 = bump_same (counts system m) t.hart in
          let more : counts system (after m (step_of system m t)) t.hart ≤ counts system (run system (after m (step_of system m t)) turns) t.hart =
          counts_grow system (after m (step_of system m t)) turns runs.1 t.hart in
          omega (arith, now, one, more)

  -- a page that a step writes is touched
  pub steps_touch : (m : Machine Hart Page) (turns : List (Turn Input)) → Runs system m turns →
      Each (λ s. (page : ℕ) → Writes s.effect page → Contains s.effect.touched page) (steps system m turns)
  steps_touch m [] runs = tt
  steps_touch m (t ∷ turns) runs = (
    λ page writes. system.within (m.harts t.hart) t.input m.pages page runs.0 writes,
    steps_touch (after m (step_of system m t)) turns runs.1,
  )

  -- the harts that go are of the crew, where no other has an end
  pub steps_of_crew : (edges : List Edge) (cut : ℕ → ℕ) (inputs : ℕ → ℕ → Input) (many : ℕ) → ((hart : ℕ) → many ≤ hart → cut hart ≡ 0) →
      (order : List ℕ) (now : ℕ → ℕ) (m : Machine Hart Page) → Begins edges cut now order →
      Each (λ s. s.hart < many) (steps system m (turns_of inputs now order))
  steps_of_crew edges cut inputs many none [] now m begins = tt
  steps_of_crew edges cut inputs many none (hart ∷ order) now m ((less, met), rest) = (
    elim (cases_lt hart many) [ inl is ↦ is | inr over ↦ let zero = none hart over in absurd (omega (arith, zero, less)) ],
    steps_of_crew edges cut inputs many none order (bump now hart)
        (after m (step_of system m (record { hart = hart; input = inputs hart (now hart) }))) rest,
  )

  -- the steps have the log's inputs
  pub steps_given : (log : Log Input) (order : List ℕ) (now : ℕ → ℕ) (m : Machine Hart Page) → now ≡ counts system m →
      Runs system m (turns_of log.inputs now order) → HasInputs system log (steps system m (turns_of log.inputs now order))
  steps_given log [] now m is runs = tt
  steps_given log (hart ∷ order) now m is (awake, rest) =
      let t : Turn Input = record { hart = hart; input = log.inputs hart (now hart) } in (
        ap (λ (n : ℕ → ℕ). log.inputs hart (n hart)) is,
        steps_given log order (bump now hart) (after m (step_of system m t))
            (ap (λ (n : ℕ → ℕ). bump n hart) is ∙ sym (counts_step system m t awake)) rest,
      )

  -- the edges of each are met where it stands
  pub steps_met : (edges : List Edge) (cut : ℕ → ℕ) (inputs : ℕ → ℕ → Input) (order : List ℕ) (now : ℕ → ℕ) (m : Machine Hart Page) →
      Begins edges cut now order → EachMet edges now (steps system m (turns_of inputs now order))
  steps_met edges cut inputs [] now m begins = tt
  steps_met edges cut inputs (hart ∷ order) now m ((less, met), rest) =
      let t : Turn Input = record { hart = hart; input = inputs hart (now hart) } in
      (met, steps_met edges cut inputs order (bump now hart) (after m (step_of system m t)) rest)
