-- Journals as runs of a machine.
use Rattle.std.specs.Prelude.{◌≡◌, ◌≢◌, ◌<◌, ◌≤◌, ◌⊎◌, ◌+◌, ℕ, List, [], ◌∷◌, ◌++◌, length, replicate, slice_get, Option, None, Some, Contains}
use Rattle.std.specs.Prelude.{if◌then◌else◌, ◌==◌}
use Rattle.interleaving.specs.Machine.{Turn}
use Rattle.interleaving.specs.Stored.{run_from}
use Rattle.interleaving.specs.Log.{Edge, IsMet, Begins, turns_of}
use Rattle.ft_types.specs.Counts.{count_at}
use Rattle.ft_types.specs.declared.names.TheConstants.{COUNT_LIMIT, INPUT_LIMIT}
use Rattle.input_log.specs.declared.Input.{Input}
use Rattle.input_log.specs.Inputs.{inputs_of, inputs_at}
use Rattle.rv32_hart.specs.Hart.{Hart}
use Rattle.rv32_hart.specs.Hardware.{hardware}
use Rattle.rv32_hart.specs.Bells.{IsRungOnce}
use Rattle.guest_image.specs.Machine.{MachineState}
use Rattle.hart_lease.specs.declared.stretch.Stretch.{Stretch}
use Rattle.hart_lease.specs.Slots.{slot_at, want_of}
use Rattle.hart_lease.specs.Taken.{taken_at, right_of_taken}
use Rattle.hart_lease.specs.Leases.{LeaseView, base_at, laid, whole}
use Rattle.hart_lease.specs.Recorded.{IsPlayed}
use Rattle.hart_lease.specs.Turns.{turns_from}

-- the machine after these turns; none where one is of a hart that is halted or not there
abbrev pub run_of : MachineState → List (Turn (List Input)) → Option MachineState
run_of m turns = run_from (hardware (length m.pages)) (Some m) turns

-- the lease's hart and pages stand in this machine as they were lent
pub record StandsIn (m : MachineState) (l : LeaseView) : Type 0 where
  pub state : slice_get m.harts l.hart ≡ Some l.base
  pub as_many : length l.slots ≡ length m.pages
  pub contents : (page : ℕ) (bytes : List ℕ) → base_at l page ≡ Some bytes → slice_get m.pages page ≡ Some bytes

-- whatever machine the hart and pages were lent by, the lease's steps take it to what the lease has now
abbrev pub IsRunOf : LeaseView → Type 0
IsRunOf l = (m : MachineState) → StandsIn m l → run_of m (turns_from l.inputs l.hart l.steps) ≡ Some (laid m l)

-- what every lease keeps: its steps are those of its hart, one after the other, on every machine that its hart and pages
-- stand in, and each uses only pages that it had taken by then; and it rang one hart at most
pub record IsLease (l : LeaseView) : Type 0 where
  pub stop : l.stop < COUNT_LIMIT
  pub few : length l.inputs ≤ INPUT_LIMIT
  pub as_many : length l.bases ≡ length l.slots
  pub counted : length l.taken ≡ length l.slots
  pub rights : (page : ℕ) → want_of (slot_at l.slots page) ≡ right_of_taken (taken_at l.taken page)
  pub number : l.present.number ≡ l.base.number
  pub harts : l.present.harts ≡ l.base.harts
  pub count : l.present.count ≡ l.base.count + l.steps
  pub rings : IsRungOnce l.base.harts l.base.rung l.present.rung
  pub runs : IsRunOf l
  pub within : (l.steps ≡ 0) ⊎ (l.present.count ≤ l.stop)
  pub played : IsPlayed l

-- what a lease keeps whose hart went out without its outputs: it is a lease, and is one too with any that the hart had before
pub record IsBareLease (l : LeaseView) : Type 0 where
  pub bare : IsLease l
  pub with_any : (earlier : List (ℕ × ℕ)) → IsLease (whole earlier l)

-- a hart that is not there has taken no step
abbrev pub steps_taken : Option Hart → ℕ
steps_taken None = 0
steps_taken (Some h) = h.count

-- how many steps each hart has taken
abbrev pub counts_of : MachineState → ℕ → ℕ
counts_of m hart = steps_taken (slice_get m.harts hart)

-- the harts that go in a journal, step by step
abbrev pub harts_of : List Stretch → List ℕ
harts_of [] = []
harts_of (s ∷ rest) = replicate s.steps s.hart ++ harts_of rest

-- the inputs that each hart is given at each of its counts
abbrev pub Heard : Type 0
Heard = ℕ → ℕ → List Input

-- what a log of inputs has for each
abbrev pub heard_in : List (List (ℕ × Input)) → Heard
heard_in log hart count = inputs_at (inputs_of log hart) count

-- the steps of a journal from the start on, each on what its hart is given at its count
abbrev pub journal_turns : Heard → MachineState → List Stretch → List (Turn (List Input))
journal_turns heard start journal = turns_of heard (counts_of start) (harts_of journal)

-- on these inputs the journal leads from the start to the machine
abbrev pub LeadsTo : Heard → MachineState → List Stretch → MachineState → Type 0
LeadsTo heard start journal machine = run_of start (journal_turns heard start journal) ≡ Some machine

-- The first count above the hart's at which it has an edge or inputs; its limit, where that comes no later.
pub record IsStop (edges : List Edge) (heard : Heard) (limit hart count stop : ℕ) : Type 0 where
  pub above : count < stop
  pub within : stop ≤ limit
  pub first : (e : Edge) → Contains edges e → e.hart ≡ hart → count < e.step → stop ≤ e.step
  pub quiet : (n : ℕ) → count < n → n < stop → heard hart n ≡ []
  pub reason : (stop ≡ limit) ⊎ ((e : Edge) × Contains edges e × (e.hart ≡ hart) × (e.step ≡ stop)) ⊎ (heard hart stop ≢ [])

-- the hart may go on from these counts up to its stop: the edges of its next step are met, and no later step below the stop has any
pub record MayGoTo (edges : List Edge) (now : ℕ → ℕ) (hart stop : ℕ) : Type 0 where
  pub met : IsMet edges now hart
  pub first : (e : Edge) → Contains edges e → e.hart ≡ hart → now hart < e.step → stop ≤ e.step

-- the journal is the beginning of a schedule of these edges that takes each hart from the start to its stop
abbrev pub BeginsSchedule : List Edge → List ℕ → MachineState → List Stretch → Type 0
BeginsSchedule edges stops start journal = Begins edges (count_at stops) (counts_of start) (harts_of journal)

-- a lease without steps adds nothing
abbrev pub added : List Stretch → ℕ → ℕ → List Stretch
added journal hart steps = if steps == 0 then journal else journal ++ record { hart = hart; steps = steps } ∷ []

-- Where the harts have settled these counts, the lease's inputs are those that its hart hears at its settled count, if it
-- took a step there. It hears none at the lease's later steps, and what was heard before stays.
pub record HearsOn (old new : Heard) (settled : ℕ → ℕ) (l : LeaseView) : Type 0 where
  pub before : (hart count : ℕ) → count < settled hart → new hart count ≡ old hart count
  pub first : l.steps ≢ 0 → new l.hart (settled l.hart) ≡ l.inputs
  pub later : (count : ℕ) → settled l.hart < count → count < l.present.count → new l.hart count ≡ []
