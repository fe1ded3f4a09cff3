use Rattle.std.proofs.Common.{◌≡◌, ◌+◌, ◌-◌, ◌≤◌, ◌++◌, replicate, max, vec_len, vec_capacity}
use Rattle.input_log.specs.Notes.{nothing_noted}
use Rattle.input_log.proofs.note_log.add_rows.Given as goal

abbrev pub invariant-loop-more : goal.invariant-loop-more
invariant-loop-more l = record {
  rows : l.rows.items ≡ l.fn.rows.items ++ replicate (l._more - vec_len l.fn.rows) nothing_noted;
  from : vec_len l.fn.rows ≤ l._more;
  to : l._more ≤ max l.many (vec_len l.fn.rows);
  many : vec_len l.rows ≡ l._more;
  room : vec_capacity l.rows ≡ vec_capacity l.fn.rows;
}
