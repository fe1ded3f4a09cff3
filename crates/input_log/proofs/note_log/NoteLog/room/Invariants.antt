use Rattle.std.proofs.Common.{◌≡◌, ◌<◌, ◌≤◌, ℕ, length}
use Rattle.ft_types.specs.declared.names.TheConstants.{HART_ROW}
use Rattle.input_log.specs.Notes.{notes_of, HasRoom}
use Rattle.input_log.proofs.note_log.NoteLog.room.Given as goal

abbrev pub invariant-loop-hart : goal.invariant-loop-hart
invariant-loop-hart l =
    record {
      rows : HART_ROW ≤ length l.self-inside.rows.items;
      same : (hart : ℕ) → notes_of l.self-inside.rows.items hart ≡ notes_of l.fn.self hart;
      room : (hart : ℕ) → hart < l.hart → HasRoom l.self-inside.rows.items hart;
    }
