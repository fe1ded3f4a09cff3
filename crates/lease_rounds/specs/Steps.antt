-- One step of a primary's hart.
use Rattle.std.specs.Prelude.{◌≡◌, ◌≢◌, ◌≤◌, ◌-◌, ◌++◌, ℕ, List, map, drop, replicate, slice_get, false, Option, None, Some, if◌then◌else◌}
use Rattle.rv32_hart.specs.Hart.{Hart}
use Rattle.guest_image.specs.Machine.{MachineState}
use Rattle.ft_types.specs.Counts.{count_at}
use Rattle.ft_types.specs.declared.names.TheConstants.{INPUT_LIMIT}
use Rattle.hart_lease.specs.Runs.{added, counts_of}
use Rattle.crew_pages.specs.Rights.{holds}
use Rattle.input_log.specs.declared.Input.{Input}
use Rattle.input_log.specs.declared.WaitingBell.{WaitingBell}
use Rattle.input_log.specs.declared.WaitingInput.{WaitingInput}
use Rattle.input_log.specs.Inputs.{inputs_of}
use Rattle.input_log.specs.Waiting.{bells_of, others_of, going, others_staying, room_beside}
use Rattle.book_modes.specs.Dues.{due_at, is_silent, nothing_due}
use Rattle.book_modes.specs.Silences.{rung_by, bell_from}
use Rattle.book_modes.specs.Recordings.{RecordingView, right_at}
use Rattle.page_book.specs.Books.{BookView, refusal}
use Rattle.page_book.specs.declared.answers.BookFault.{BookFault}
use Rattle.page_book.specs.declared.answers.BookFault.TheVariants.{Memory}
use Rattle.page_book.specs.Tellings.{TellsOn}
use Rattle.lease_rounds.specs.Running.{IsIdle, Continues, KeepsOffered}

-- no hart is past its limit
abbrev pub AreWithin : BookView RecordingView → Type 0
AreWithin b = (hart : ℕ) → counts_of b.machine hart ≤ count_at b.mode.limits hart

-- the hart is not halted
abbrev pub Runs : BookView RecordingView → ℕ → Type 0
Runs b hart = (h : Hart) → slice_get b.machine.harts hart ≡ Some h → h.halted ≡ false

-- what the hart's next step is given: what a lease that ended without its first step left, or else what waits for this count
abbrev pub inputs_next : RecordingView → ℕ → ℕ → List Input
inputs_next r hart count =
    if is_silent (due_at r.due hart).inputs
    then going count (bells_of r.desk hart) (others_of r.desk hart)
    else (due_at r.due hart).inputs

-- the hart's step was given these at its count, and no other hart was given any
pub record IsGiven (hart : ℕ) (b c : BookView RecordingView) : Type 0 where
  pub own : inputs_of c.mode.inputs hart
      ≡ inputs_of b.mode.inputs hart ++ map (λ input. (counts_of b.machine hart, input)) (inputs_next b.mode hart (counts_of b.machine hart))
  pub others : (other : ℕ) → other ≢ hart → inputs_of c.mode.inputs other ≡ inputs_of b.mode.inputs other

-- what is due then: nothing to the hart, and to each other one what was
pub record IsDue (hart : ℕ) (b c : BookView RecordingView) : Type 0 where
  pub own : due_at c.mode.due hart ≡ nothing_due
  pub others : (other : ℕ) → other ≢ hart → due_at c.mode.due other ≡ due_at b.mode.due other

-- the bells, and the other inputs, that still wait for the hart once its step at this count has what it is given
abbrev pub bells_left : RecordingView → ℕ → List WaitingBell
bells_left r hart = if is_silent (due_at r.due hart).inputs then drop INPUT_LIMIT (bells_of r.desk hart) else bells_of r.desk hart

abbrev pub others_left : RecordingView → ℕ → ℕ → List WaitingInput
others_left r hart count =
    if is_silent (due_at r.due hart).inputs
    then others_staying count (room_beside (bells_of r.desk hart)) (others_of r.desk hart)
    else others_of r.desk hart

-- the bell that the hart rang for the target between these machines, if it rang one
abbrev pub bells_between : MachineState → MachineState → ℕ → ℕ → List WaitingBell
bells_between m n hart target =
    replicate (rung_by (slice_get n.harts hart) target - rung_by (slice_get m.harts hart) target) (bell_from hart (counts_of n hart))

-- what waits then: what was there, less what the hart was given, and behind it the bell that the hart rang
pub record Waits (hart : ℕ) (b c : BookView RecordingView) : Type 0 where
  pub bells : bells_of c.mode.desk hart ≡ bells_left b.mode hart ++ bells_between b.machine c.machine hart hart
  pub others : others_of c.mode.desk hart ≡ others_left b.mode hart (counts_of b.machine hart)
  pub bells_of_others : (other : ℕ) → other ≢ hart →
      bells_of c.mode.desk other ≡ bells_of b.mode.desk other ++ bells_between b.machine c.machine hart other
  pub others_of_others : (other : ℕ) → other ≢ hart → others_of c.mode.desk other ≡ others_of b.mode.desk other

-- the hart took one step, which is settled: the second book goes on from the first
pub record HasStepped (hart : ℕ) (b c : BookView RecordingView) : Type 0 where
  pub idle : IsIdle c
  pub journal : c.journal ≡ added b.journal hart 1
  pub continues : Continues b c
  pub tells : TellsOn b c
  pub notes : c.mode.notes ≡ b.mode.notes
  pub limits : c.mode.limits ≡ b.mode.limits
  pub given : IsGiven hart b c
  pub due : IsDue hart b c
  pub desk : Waits hart b c
  pub offered : KeepsOffered b c

-- the hart has no right to any page
abbrev pub HoldsNothing : BookView RecordingView → ℕ → Type 0
HoldsNothing b hart = (page : ℕ) → holds (right_at b.mode.rights page) hart ≡ false

-- what comes next: the hart's next step is given what it would have been, and what is due to the others, and waits for them, is as it was
pub record KeepsNext (hart : ℕ) (b c : BookView RecordingView) : Type 0 where
  pub own : inputs_next c.mode hart (counts_of b.machine hart) ≡ inputs_next b.mode hart (counts_of b.machine hart)
  pub due : (other : ℕ) → other ≢ hart → due_at c.mode.due other ≡ due_at b.mode.due other
  pub bells : (other : ℕ) → other ≢ hart → bells_of c.mode.desk other ≡ bells_of b.mode.desk other
  pub others : (other : ℕ) → other ≢ hart → others_of c.mode.desk other ≡ others_of b.mode.desk other

-- the hart took no step: what is settled, and what was told of it, is as it was
pub record IsUnmoved (hart : ℕ) (b c : BookView RecordingView) : Type 0 where
  pub book : c ≡ record b { mode = c.mode }
  pub edges : c.mode.edges ≡ b.mode.edges
  pub inputs : c.mode.inputs ≡ b.mode.inputs
  pub notes : c.mode.notes ≡ b.mode.notes
  pub limits : c.mode.limits ≡ b.mode.limits
  pub next : KeepsNext hart b c
  pub offered : KeepsOffered b c

-- why the hart can't take a step, if it can't: it is halted, or at its limit
abbrev pub IsRefused : BookView RecordingView → ℕ → Option BookFault → Type 0
IsRefused b hart fault = (h : Hart) → slice_get b.machine.harts hart ≡ Some h → refusal None h (count_at b.mode.limits hart) ≡ fault

-- why it did not: it can't, or memory was refused
abbrev pub RefusesStep : BookView RecordingView → ℕ → BookFault → Type 0
RefusesStep b hart Memory = IsRefused b hart None
RefusesStep b hart fault = IsRefused b hart (Some fault)
