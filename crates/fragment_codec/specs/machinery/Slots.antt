-- The order of records as a test walks through it: at one count, edges have the first slots, one for each other hart, inputs
-- those behind them, and a note the last. Private words, which the laws in proofs/ tie to the rules.
use Rattle.std.specs.Prelude.{ℕ, ◌+◌, ◌^◌, suc, Bool, true, false, ◌&&◌, ◌==◌, not, nat_lt, nat_le, if◌then◌else◌, max, List, [], ◌∷◌, Option, Some, None}
use Rattle.input_log.specs.declared.Input.{Input as HartInput}
use Rattle.input_log.specs.declared.Input.TheVariants.{Timer, Word, Bell}
use Rattle.fragment_codec.specs.declared.types.Record.{Record}
use Rattle.fragment_codec.specs.declared.types.Record.TheVariants.{Edge as EdgeRecord, Input as InputRecord, Note as NoteRecord}
use Rattle.fragment_codec.specs.Rules.{count_of}
use Rattle.ft_types.specs.declared.names.TheConstants.{COUNT_LIMIT, HART_LIMIT, INPUT_LIMIT}

-- the least slot that is free at the count `next`, where `slot` is at the count `at`
abbrev pub free_slot : ℕ → ℕ → ℕ → ℕ
free_slot at slot next = if at == next then slot else 0

abbrev pub is_source : ℕ → HartInput → Bool
is_source harts Timer = true
is_source harts (Word w) = nat_lt w (2 ^ 32)
is_source harts (Bell source) = nat_lt source harts

-- the last slot of a count
abbrev pub note_slot : ℕ
note_slot = HART_LIMIT + INPUT_LIMIT

-- the number that was noted last, where `said` was before the record
abbrev pub said_after : ℕ → Record → ℕ
said_after said (EdgeRecord edge) = said
said_after said (InputRecord at input) = said
said_after said (NoteRecord at number) = number

-- the slot behind the record, where it keeps the rules behind records that left at and slot, with this number noted last
unfoldable pub slot_after : ℕ → ℕ → ℕ → ℕ → ℕ → ℕ → Record → Option ℕ
slot_after harts hart to at slot said (EdgeRecord edge) =
    if nat_le at edge.at && nat_lt edge.at to && edge.hart == hart && nat_lt edge.other harts && not (edge.other == hart)
    && nat_lt 0 edge.after && nat_lt edge.after COUNT_LIMIT && nat_le (free_slot at slot edge.at) edge.other
    then Some (suc edge.other) else None
slot_after harts hart to at slot said (InputRecord count input) =
    if nat_le at count && nat_lt count to && is_source harts input && nat_lt (max HART_LIMIT (free_slot at slot count)) note_slot
    then Some (suc (max HART_LIMIT (free_slot at slot count))) else None
slot_after harts hart to at slot said (NoteRecord count number) =
    if nat_le at count && nat_lt count to && nat_lt said number && nat_le number count && nat_le (free_slot at slot count) note_slot
    then Some (suc note_slot) else None

abbrev pub if_some : Option ℕ → (ℕ → Bool) → Bool
if_some None f = false
if_some (Some n) f = f n

unfoldable pub are_right : ℕ → ℕ → ℕ → ℕ → ℕ → ℕ → List Record → Bool
are_right harts hart to at slot said [] = true
are_right harts hart to at slot said (record1 ∷ records) =
    if_some (slot_after harts hart to at slot said record1) (λ next. are_right harts hart to (count_of record1) next (said_after said record1) records)
