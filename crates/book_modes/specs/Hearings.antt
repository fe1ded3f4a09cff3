-- Bells that are heard in their turn.
use Rattle.std.specs.Prelude.{◌≡◌, ◌<◌, ◌≤◌, ◌+◌, ◌==◌, ◌⊎◌, ◌++◌, ℕ, List, [], ◌∷◌, length, filter, count_by, slice_get, Option, Some, Contains}
use Rattle.interleaving.specs.Machine.{Machine, Turn, Step, counts, steps}
use Rattle.interleaving.specs.Log.{Edge, Log, IsHonest, Before, place}
use Rattle.interleaving.specs.Stored.{view}
use Rattle.input_log.specs.declared.Input.{Input}
use Rattle.input_log.specs.declared.WaitingBell.{WaitingBell}
use Rattle.input_log.specs.Waiting.{Queues, bells_of, others_of, AreOthers}
use Rattle.rv32_hart.specs.Hart.{Hart}
use Rattle.rv32_hart.specs.Hardware.{hardware}
use Rattle.rv32_hart.specs.Bells.{is_bell_from}
use Rattle.guest_image.specs.Machine.{MachineState}
use Rattle.hart_lease.specs.Recorded.{system}
use Rattle.book_modes.specs.Silences.{rung_by, heard_by}
use Rattle.book_modes.specs.Dues.{DueView, due_at, bell_edges}

-- a machine, as the theory sees it
abbrev pub HartMachine : Type 0
HartMachine = Machine (Option Hart) (Option (List ℕ))

-- a step that a hart took
abbrev pub HartStep : Type 0
HartStep = Step (Option Hart) (Option (List ℕ)) (List Input)

-- the source, which had rung the target k times, rings it once more
pub record Rings (s : HartStep) (source target k : ℕ) : Type 0 where
  pub own : s.hart ≡ source
  pub before : rung_by s.found target ≡ k
  pub after : rung_by s.effect.hart target ≡ k + 1

-- the target hears number k of the source's bells, which it counts from 0 on
pub record Hears (t : HartStep) (source target k : ℕ) : Type 0 where
  pub own : t.hart ≡ target
  pub from : heard_by t.found source ≤ k
  pub below : k < heard_by t.found source + count_by (is_bell_from source) t.input

-- two harts of the machine, where at the start the target had heard no more bells of the source than that had rung
pub record IsPair (start : HartMachine) (source target : ℕ) : Type 0 where
  pub is_source : (h : Hart) × (start.harts source ≡ Some h)
  pub is_target : (h : Hart) × (start.harts target ≡ Some h)
  pub heard : heard_by (start.harts target) source ≤ rung_by (start.harts source) target

-- a bell that a target hears at one of these steps of a machine with so many pages, and that the start had not rung, was rung
-- at one of them that comes before by the edges
abbrev pub HearsInTurn : ℕ → List Edge → HartMachine → List HartStep → Type 0
HearsInTurn pages edges start past =
    (source target k : ℕ) (t : HartStep) → IsPair start source target → rung_by (start.harts source) target ≤ k →
    Contains past t → Hears t source target k →
    (s : HartStep) × Contains past s × Rings s source target k × Before edges (place (system pages) s) (place (system pages) t)

-- The log tells truly of a run from the start: its edges order each two steps that conflict, it has the run's inputs, and each
-- bell is heard in its turn.
pub record IsTrueLog (pages : ℕ) (log : Log (List Input)) (start : HartMachine) (turns : List (Turn (List Input))) : Type 0 where
  pub honest : IsHonest (system pages) log start turns
  pub bells : HearsInTurn pages log.edges start (steps (system pages) start turns)

-- What a recording book keeps of bells.

-- those of one source
abbrev pub bells_from : ℕ → List WaitingBell → List WaitingBell
bells_from source bells = filter (λ b. b.source == source) bells

-- P holds of each bell and its number, counted from k on
abbrev pub AreNumbered : (ℕ → WaitingBell → Type 0) → ℕ → List WaitingBell → Type 0
AreNumbered P k [] = Unit {0}
AreNumbered P k (b ∷ bells) = P k b × AreNumbered P (k + 1) bells

-- the source's bell number k for the target was rung by the start, or before the count that waits with it
abbrev pub WasRung : MachineState → List HartStep → ℕ → ℕ → ℕ → WaitingBell → Type 0
WasRung start past source target k b =
    (k < rung_by (slice_get start.harts source) target) ⊎
    ((s : HartStep) × Contains past s × Rings s source target k × ((system (length start.pages)).count s.found < b.after))

-- the bells are those that were rung and not heard, in order, and P holds of each and its number
pub record AreNext (P : ℕ → WaitingBell → Type 0) (heard rung : ℕ) (bells : List WaitingBell) : Type 0 where
  pub many : heard + length bells ≡ rung
  pub each : AreNumbered P heard bells

-- after these steps, which led from the start to a machine
pub record KeepsBells (start : MachineState) (now : Machine (Option Hart) (Option (List ℕ))) (past : List HartStep) (edges : List Edge)
    (due : List DueView) (desk : List Queues) : Type 0 where
  -- a hart counts the bells of each
  pub rows : (hart : ℕ) (h : Hart) → now.harts hart ≡ Some h → length start.harts ≤ length h.received.heard
  -- what is due to a hart is what these bells bring
  pub due_bells : ℕ → List WaitingBell
  pub told : (hart source : ℕ) → count_by (is_bell_from source) (due_at due hart).inputs ≡ length (bells_from source (due_bells hart))
  pub owed : (hart : ℕ) → (due_at due hart).edges ≡ bell_edges hart (counts (system (length start.pages)) now hart) (due_bells hart)
  -- they and those of the desk are the next that it hears
  pub next : (source target : ℕ) → IsPair (view (hardware (length start.pages)) start) source target →
      AreNext (WasRung start past source target) (heard_by (now.harts target) source) (rung_by (now.harts source) target)
      (bells_from source (due_bells target ++ bells_of desk target))
  pub others : (hart : ℕ) → AreOthers (others_of desk hart)
  -- and those that were heard were heard in their turn
  pub in_turn : HearsInTurn (length start.pages) edges (view (hardware (length start.pages)) start) past
