use Rattle.std.proofs.Common.{take}
use Rattle.hart_replay.specs.Facts.{notes_among}
use Rattle.hart_replay.specs.machinery.Taking.{between, TakesNotes}
use Rattle.hart_replay.proofs.facts.add_notes.Given as goal

abbrev pub invariant-loop-record : goal.invariant-loop-record
invariant-loop-record l = TakesNotes l.piece.key.hart l.initial.marks (notes_among (between l.from l.end (take l.record-index l.piece.records))) l.marks
