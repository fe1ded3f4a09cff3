-- What a step asks for, as it goes.
use Rattle.std.proofs.Common.{◌≡◌, ◌≢◌, ◌⊎◌, inl, ℕ, zero, suc, ◌+◌, Bool, true, false, List, [], ◌∷◌, length, replicate, slice_get, slice_index, slice_index_or}
use Rattle.std.proofs.Common.{Contains, refl}
use Rattle.interleaving.specs.Machine.{Effect, Writes}
use Rattle.ft_types.specs.declared.names.Want.TheVariants.{Read, Write}
use Rattle.ft_types.specs.declared.names.TheConstants.{PAGE_ROW}
use Rattle.input_log.specs.declared.Input.{Input}
use Rattle.rv32_hart.specs.Hart.{Hart}
use Rattle.rv32_hart.specs.Ram.{Ram, may_read, may_write}
use Rattle.rv32_hart.specs.Step.{effect}
use Rattle.log_audit.specs.declared.marks.Uses.{Uses}
use Rattle.log_audit.specs.machinery.Marks.{uses_at, IsClear}
use Rattle.log_audit.specs.machinery.Asking.{no_rights}

-- how many of these rights are lacking
abbrev pub lacking : List Bool → ℕ
lacking [] = 0
lacking (true ∷ rest) = lacking rest
lacking (false ∷ rest) = lacking rest + 1

-- the hart's step on these pages
abbrev pub step_on : List (List ℕ) → Hart → List Input → Effect Hart (List ℕ)
step_on contents h inputs = effect (length contents) h inputs (slice_get contents)

-- What the step has asked for was clear, it is marked, and no more is marked than its step uses.
pub record IsAsking (hart : ℕ) (h : Hart) (inputs : List Input) (before : List ℕ) (contents : List (List ℕ)) (uses : List Uses) (r : Ram) (now : List Uses) :
    Type 0 where
  pub same : r.contents ≡ contents
  pub many : length now ≡ length uses
  pub rights : length r.readable ≡ PAGE_ROW
  pub rights_to_write : length r.writable ≡ PAGE_ROW
  pub others : (page other : ℕ) → other ≢ hart →
      (slice_index (uses_at now page).read other ≡ slice_index (uses_at uses page).read other) ×
      (slice_index (uses_at now page).written other ≡ slice_index (uses_at uses page).written other)
  pub read : (page : ℕ) → (slice_index (uses_at now page).read hart ≡ slice_index (uses_at uses page).read hart) ⊎
      ((slice_index (uses_at now page).read hart ≡ h.count + 1) × Contains (step_on contents h inputs).touched page × IsClear uses page hart Read before)
  pub written : (page : ℕ) → (slice_index (uses_at now page).written hart ≡ slice_index (uses_at uses page).written hart) ⊎
      ((slice_index (uses_at now page).written hart ≡ h.count + 1) × Writes (step_on contents h inputs) page × IsClear uses page hart Write before)
  pub may_read_marked : (page : ℕ) → may_read r page ≡ true →
      (slice_index (uses_at now page).read hart ≡ h.count + 1) ⊎ (slice_index (uses_at now page).written hart ≡ h.count + 1)
  pub may_write_marked : (page : ℕ) → may_write r page ≡ true → slice_index (uses_at now page).written hart ≡ h.count + 1

no_right : (n page : ℕ) → slice_index_or (replicate n false) page false ≡ true → ⊥
no_right zero page e = cc
no_right (suc n) zero e = cc
no_right (suc n) (suc page) e = no_right n page e

pub asking_begins : (hart : ℕ) (h : Hart) (inputs : List Input) (before : List ℕ) (contents : List (List ℕ)) (uses : List Uses) →
    IsAsking hart h inputs before contents uses (no_rights contents) uses
asking_begins hart h inputs before contents uses =
    record {
      same = refl;
      many = refl;
      rights = refl;
      rights_to_write = refl;
      others = λ page other ne. (refl, refl);
      read = λ page. inl refl;
      written = λ page. inl refl;
      may_read_marked = λ page e. absurd (no_right PAGE_ROW page e);
      may_write_marked = λ page e. absurd (no_right PAGE_ROW page e);
    }
