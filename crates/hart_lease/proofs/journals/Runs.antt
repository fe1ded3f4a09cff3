-- Runs, one part after the other.
use Rattle.std.proofs.Common.{◌≡◌, ◌≢◌, ℕ, zero, suc, ◌+◌, List, [], ◌∷◌, ◌++◌, replicate, slice_get, Option, None, Some, refl, ap, add-one}
use Rattle.interleaving.specs.Machine.{Turn}
use Rattle.interleaving.specs.Stored.{Hardware, Store, run_from, goes}
use Rattle.input_log.specs.declared.Input.{Input}
use Rattle.hart_lease.specs.Turns.{turn_on, given_at, turns_from}

module _ {Hart Page Input : Type 0} (hardware : Hardware Hart Page Input) where
  -- a run goes on from where its front leads
  pub run_from-append : (s : Option (Store Hart Page)) (front rest : List (Turn Input)) →
      run_from hardware s (front ++ rest) ≡ run_from hardware (run_from hardware s front) rest
  run_from-append None front rest = refl
  run_from-append (Some s) [] rest = refl
  run_from-append (Some s) (t ∷ front) rest = run_from-append (goes hardware s t (slice_get s.harts t.hart)) front rest

replicate-suc_last : {A : Type 0} (n : ℕ) (x : A) → replicate (suc n) x ≡ replicate n x ++ x ∷ []
replicate-suc_last zero x = refl
replicate-suc_last (suc n) x = ap (λ l. x ∷ l) (replicate-suc_last n x)

pub replicate-last : {A : Type 0} (n : ℕ) (x : A) → replicate (n + 1) x ≡ replicate n x ++ x ∷ []
replicate-last n x = rw (add-one) (replicate-suc_last n x)

-- one more step, which is given the inputs where it is the first
turns_from-suc_last : (inputs : List Input) (hart n : ℕ) → turns_from inputs hart (suc n) ≡ turns_from inputs hart n ++ turn_on hart (given_at inputs n) ∷ []
turns_from-suc_last inputs hart zero = refl
turns_from-suc_last inputs hart (suc n) = ap (λ l. turn_on hart inputs ∷ l) (replicate-suc_last n (turn_on hart []))

pub turns_from-last : (inputs : List Input) (hart n : ℕ) → turns_from inputs hart (n + 1) ≡ turns_from inputs hart n ++ turn_on hart (given_at inputs n) ∷ []
turns_from-last inputs hart n = rw (add-one) (turns_from-suc_last inputs hart n)

pub given_later : (inputs : List Input) (n : ℕ) → n ≢ 0 → given_at inputs n ≡ []
given_later inputs zero some = absurd (some refl)
given_later inputs (suc n) some = refl
