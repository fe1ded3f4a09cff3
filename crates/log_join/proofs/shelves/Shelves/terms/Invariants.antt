use Rattle.std.proofs.Common.{◌≡◌, ◌++◌}
use Rattle.log_join.specs.machinery.Contents.{listed}
use Rattle.std.proofs.Common.{ℕ}
use Rattle.log_join.proofs.shelves.Shelves.terms.Given as goal

-- the terms so far and those that are left are all
abbrev pub invariant-loop-term : goal.invariant-loop-term
invariant-loop-term l = l.terms.items ++ listed (λ (t : ℕ). t) l.term-iterator ≡ listed (λ (t : ℕ). t) l.self.openings.entries
