-- What a call writes.
use Rattle.std.specs.Prelude.{◌≡◌, ◌≢◌, ℕ, List, Option, Result, Ok, Err, ◌⊎◌}
use Rattle.ft_types.specs.Devices.{Writes}

-- the call is done, or has the fault that says that the writer failed
abbrev pub HasWritten : {A E : Type 0} → E → Result A E → Type 0
HasWritten write (Ok x) = Unit {0}
HasWritten write (Err fault) = fault ≡ write

-- it has another fault
abbrev pub HasNotWritten : {A E : Type 0} → E → Result A E → Type 0
HasNotWritten write (Ok x) = ⊥
HasNotWritten write (Err fault) = fault ≢ write

-- A text of which P holds was written and nothing else, or a beginning of it where the writer failed, which the fault `write` says; with any
-- other fault nothing was written. old and new are the writer's bytes before and after, f and g its counts of failures.
abbrev pub WritesOne : {A E : Type 0} → E → (List ℕ → Type 0) → Result A E → Option (List ℕ) → Option (List ℕ) → ℕ → ℕ → Type 0
WritesOne write P r old new f g =
    ((text : List ℕ) × P text × HasWritten write r × Writes r old new f g text) ⊎ (HasNotWritten write r × (new ≡ old) × (g ≡ f))
