use Rattle.std.proofs.Common.{◌≡◌, ◌+◌, ◌-◌, ◌≤◌, length, take, vec_len, vec_capacity}
use Rattle.input_log.proofs.note_log.NoteLog.copy.Given as goal

abbrev pub invariant-loop-row : goal.invariant-loop-row
invariant-loop-row l = record {
  same : l.rows.items ≡ take l.row-index l.row-items;
  room : vec_len l.rows + (length l.row-items - l.row-index) ≤ vec_capacity l.rows;
}
