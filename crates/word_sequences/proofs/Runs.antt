-- INSEQ over runs.
use Rattle.std.proofs.Common.{◌≡◌, ◌≢◌, ◌+◌, ◌<◌, ◌%◌, ◌^◌, ◌==◌, ℕ, List, [], ◌∷◌, Option, None, Some, length, refl, sym, ap, ◌∙◌, arith, inl, inr, eq-eqb, ne_eqb}
use Rattle.std.specs.Prelude.{if◌then◌else◌}
use Rattle.interleaving.specs.Machine.{Machine, Turn, after, step_of, run, steps}
use Rattle.interleaving.specs.Stored.{effect_of}
use Rattle.interleaving.proofs.Put.{same_or_not, put_same, put_other}
use Rattle.input_log.specs.declared.Input.{Input}
use Rattle.rv32_hart.specs.Hart.{Hart}
use Rattle.rv32_hart.specs.Hardware.{hardware}
use Rattle.hart_lease.specs.Recorded.{system}
use Rattle.requests.specs.Queues.{words_in}
use Rattle.word_sequences.specs.Sequences.{RunsAreCounted, given_by, sequence_of, words_given}
use Rattle.word_sequences.proofs.Steps.{effect_sequence}

pub where_same : (n a b : ℕ) → a ≡ b → (if a == b then n else 0) ≡ n
where_same n a b e = rw (eq-eqb a b e) refl

pub where_other : (n a b : ℕ) → a ≢ b → (if a == b then n else 0) ≡ 0
where_other n a b ne = rw (ne_eqb a b ne) refl

-- a step's own hart
own_step : (pages : ℕ) (found : Option Hart) (inputs : List Input) (contents : ℕ → Option (List ℕ)) → sequence_of found < 2 ^ 32 →
    sequence_of (effect_of (hardware pages) found inputs contents).hart ≡ (sequence_of found + given_by found inputs) % 2 ^ 32
own_step pages None inputs contents low = refl
own_step pages (Some h) inputs contents low = effect_sequence pages h inputs contents low

cut_twice : (a b c : ℕ) → ((a + b) % 2 ^ 32 + c) % 2 ^ 32 ≡ (a + (b + c)) % 2 ^ 32
cut_twice a b c = omega arith

module _ (pages : ℕ) where
  one : (m : Machine (Option Hart) (Option (List ℕ))) (t : Turn (List Input)) (hart : ℕ) → sequence_of (m.harts hart) < 2 ^ 32 →
      sequence_of ((after m (step_of (system pages) m t)).harts hart) ≡
      (sequence_of (m.harts hart) + (if t.hart == hart then given_by (m.harts t.hart) t.input else 0)) % 2 ^ 32
  one m t hart low =
      let n = given_by (m.harts t.hart) t.input in
      elim (same_or_not t.hart hart) [
        | inl e ↦
            let own : sequence_of (m.harts t.hart) ≡ sequence_of (m.harts hart) = ap (λ (k : ℕ). sequence_of (m.harts k)) e in
            ap sequence_of (put_same m.harts t.hart hart (effect_of (hardware pages) (m.harts t.hart) t.input m.pages).hart e)
            ∙ own_step pages (m.harts t.hart) t.input m.pages (omega (arith, own, low))
            ∙ ap (λ (k : ℕ). (k + n) % 2 ^ 32) own
            ∙ ap (λ (k : ℕ). (sequence_of (m.harts hart) + k) % 2 ^ 32) (sym (where_same n t.hart hart e))
        | inr ne ↦
            ap sequence_of (put_other m.harts t.hart hart (effect_of (hardware pages) (m.harts t.hart) t.input m.pages).hart ne)
            ∙ (let z : sequence_of (m.harts hart) ≡ (sequence_of (m.harts hart) + 0) % 2 ^ 32 = omega (arith, low) in z)
            ∙ ap (λ (k : ℕ). (sequence_of (m.harts hart) + k) % 2 ^ 32) (sym (where_other n t.hart hart ne))
      ]

  pub runs : (m : Machine (Option Hart) (Option (List ℕ))) (turns : List (Turn (List Input))) (hart : ℕ) → sequence_of (m.harts hart) < 2 ^ 32 →
      sequence_of ((run (system pages) m turns).harts hart) ≡
      (sequence_of (m.harts hart) + words_given (steps (system pages) m turns) hart) % 2 ^ 32
  runs m [] hart low = omega (arith, low)
  runs m (t ∷ turns) hart low =
      let next = after m (step_of (system pages) m t) in
      let more = words_given (steps (system pages) next turns) hart in
      let first = one m t hart low in
      runs next turns hart (omega (arith, first))
      ∙ ap (λ (n : ℕ). (n + more) % 2 ^ 32) first
      ∙ cut_twice (sequence_of (m.harts hart)) (if t.hart == hart then given_by (m.harts t.hart) t.input else 0) more

pub runs_are_counted : RunsAreCounted
runs_are_counted pages = runs pages
