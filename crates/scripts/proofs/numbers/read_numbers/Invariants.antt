use Rattle.std.proofs.Common.{◌≡◌, ℕ, List, ◌∷◌, ◌++◌, length}
use Rattle.scripts.specs.Events.{AreNumbers, spaced_numbers}
use Rattle.scripts.proofs.Names.{behind}
use Rattle.scripts.proofs.numbers.read_numbers.Given as goal

abbrev pub invariant-loop-rest : goal.invariant-loop-rest
invariant-loop-rest l = AreNumbers l.numbers.items × (32 ∷ l.text ≡ spaced_numbers l.numbers.items ++ behind (λ r. r.now) l.rest) ×
    ((ns : List ℕ) → AreNumbers ns → 32 ∷ l.text ≡ spaced_numbers ns → (ks : List ℕ) × AreNumbers ks × (behind (λ r. r.now) l.rest ≡ spaced_numbers ks))

abbrev pub decreases-loop-rest : goal.decreases-loop-rest
decreases-loop-rest l = length (behind (λ r. r.now) l.rest)
