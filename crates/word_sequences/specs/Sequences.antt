-- INSEQ counts the words that a hart was given.
use Rattle.std.specs.Prelude.{◌≡◌, ◌+◌, ◌<◌, ◌≤◌, ◌%◌, ◌^◌, ◌==◌, ℕ, List, [], ◌∷◌, Option, None, Some, All, length, map, filter, nat_lt, slice_get, if◌then◌else◌}
use Rattle.interleaving.specs.Machine.{Machine, Step, Turn, at, run, steps}
use Rattle.interleaving.specs.Stored.{view}
use Rattle.input_log.specs.declared.Input.{Input}
use Rattle.input_log.specs.Inputs.{inputs_of}
use Rattle.rv32_hart.specs.Hart.{Hart}
use Rattle.rv32_hart.specs.Hardware.{hardware}
use Rattle.guest_image.specs.Machine.{MachineState}
use Rattle.hart_lease.specs.declared.stretch.Stretch.{Stretch}
use Rattle.hart_lease.specs.Recorded.{system}
use Rattle.hart_lease.specs.Runs.{LeadsTo, counts_of, heard_in, journal_turns}
use Rattle.requests.specs.Queues.{words_in}

-- INSEQ of a hart, 0 of one that is not there
abbrev pub sequence_of : Option Hart → ℕ
sequence_of None = 0
sequence_of (Some h) = h.received.input_sequence

-- ---- runs

-- how many words the hart is given by these inputs, where it is there
abbrev pub given_by : Option Hart → List Input → ℕ
given_by None inputs = 0
given_by (Some h) inputs = length (words_in inputs)

-- how many words these steps gave the hart
abbrev pub words_given : List (Step (Option Hart) (Option (List ℕ)) (List Input)) → ℕ → ℕ
words_given [] hart = 0
words_given (s ∷ rest) hart = (if s.hart == hart then given_by s.found s.input else 0) + words_given rest hart

-- Behind a run it is what it was and the words that the hart was given, modulo 2 ^ 32.
abbrev pub RunsAreCounted : Type 0
RunsAreCounted =
    (pages : ℕ) (m : Machine (Option Hart) (Option (List ℕ))) (turns : List (Turn (List Input))) (hart : ℕ) → sequence_of (m.harts hart) < 2 ^ 32 →
    sequence_of ((run (system pages) m turns).harts hart) ≡
    (sequence_of (m.harts hart) + words_given (steps (system pages) m turns) hart) % 2 ^ 32

-- ---- logs

-- the words that a log has for the hart, in their order
abbrev pub words_logged : List (List (ℕ × Input)) → ℕ → List ℕ
words_logged log hart = words_in (map (λ x. x.1) (inputs_of log hart))

-- Where a journal leads from the start to a machine on the inputs of a log, which has those of the hart's steps alone, it is what it was and the
-- words that the log has for the hart, modulo 2 ^ 32.
abbrev pub LogsAreCounted : Type 0
LogsAreCounted =
    (log : List (List (ℕ × Input))) (start machine : MachineState) (journal : List Stretch) (hart : ℕ) → LeadsTo (heard_in log) start journal machine →
    All (λ x. (counts_of start hart ≤ x.0) × (x.0 < counts_of machine hart)) (inputs_of log hart) → sequence_of (slice_get start.harts hart) < 2 ^ 32 →
    sequence_of (slice_get machine.harts hart) ≡ (sequence_of (slice_get start.harts hart) + length (words_logged log hart)) % 2 ^ 32

-- those of them that it has below a count
abbrev pub words_below : List (List (ℕ × Input)) → ℕ → ℕ → List ℕ
words_below log hart count = words_in (map (λ x. x.1) (filter (λ x. nat_lt x.0 count) (inputs_of log hart)))

-- the machine at a cut of the journal's steps on the inputs of a log
abbrev pub machine_at : List (List (ℕ × Input)) → MachineState → List Stretch → (ℕ → ℕ) → Machine (Option Hart) (Option (List ℕ))
machine_at log start journal cut =
    at (system (length start.pages)) (view (hardware (length start.pages)) start) (journal_turns (heard_in log) start journal) cut

-- At each cut it is what it was and the words that the log has for the hart below it, modulo 2 ^ 32.
abbrev pub CutsAreCounted : Type 0
CutsAreCounted =
    (log : List (List (ℕ × Input))) (start machine : MachineState) (journal : List Stretch) (cut : ℕ → ℕ) (hart : ℕ) →
    LeadsTo (heard_in log) start journal machine → counts_of start hart ≤ cut hart → cut hart ≤ counts_of machine hart →
    All (λ x. counts_of start hart ≤ x.0) (inputs_of log hart) → sequence_of (slice_get start.harts hart) < 2 ^ 32 →
    sequence_of ((machine_at log start journal cut).harts hart) ≡
    (sequence_of (slice_get start.harts hart) + length (words_below log hart (cut hart))) % 2 ^ 32
