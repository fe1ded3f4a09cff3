-- What came of writing, and how a command ends.
use Rattle.std.specs.Prelude.{◌≡◌, ◌≢◌, ◌⊎◌, ℕ, List, Option, Result, Ok, Err}
use Rattle.ft_types.specs.Devices.{Writes}
use Rattle.ft_types.specs.declared.errors.Failed.{Failed}
use Rattle.log_streams.specs.declared.faults.StreamsFault.TheVariants.{Write}
use Rattle.command_line.specs.declared.faults.CommandFault.{CommandFault}
use Rattle.command_line.specs.declared.faults.CommandFault.TheVariants.{Streams, Usage}
use Rattle.command_line.specs.Faults.{fault_line}

-- as a command tells it
abbrev pub as_told : Result (Unit {0}) Failed → Result (Unit {0}) CommandFault
as_told (Ok x) = Ok x
as_told (Err e) = Err (Streams Write)

-- The writer took the text, or failed and took a beginning of it. old and new are its bytes before and after, f and g its counts of failures.
abbrev pub WritesSome : Option (List ℕ) → Option (List ℕ) → ℕ → ℕ → List ℕ → Type 0
WritesSome old new f g text = (done : Result (Unit {0}) Failed) × Writes done old new f g text

-- the status of a fault: 2 where the words have no form that there is, and otherwise 1
abbrev pub IsStatusOf : CommandFault → ℕ → Type 0
IsStatusOf fault status = (fault ≡ Usage → status ≡ 2) × (fault ≢ Usage → status ≡ 1)

-- A command ends with 0, and nothing is told; or with the status of a fault whose one line is told, with a file's name where the fault names one.
-- old and new are the bytes of the writer of faults before and after, f and g its counts of failures.
abbrev pub Ends : ℕ → Option (List ℕ) → Option (List ℕ) → ℕ → ℕ → Type 0
Ends status old new f g =
    ((status ≡ 0) × (new ≡ old) × (g ≡ f)) ⊎
    ((fault : CommandFault) × (name : List ℕ) × IsStatusOf fault status × WritesSome old new f g (fault_line name fault))
