use Rattle.std.proofs.Common.{◌≡◌}
use Rattle.book_modes.proofs.ledger.ChangedRights.{AreChanged}
use Rattle.book_modes.proofs.ledger.Ending.{given_back}
use Rattle.book_modes.proofs.recording.RecordingMode.end.Given as goal

abbrev pub invariant-loop-page : goal.invariant-loop-page
invariant-loop-page l = record {
  limits : l.self-inside.limits ≡ l.initial.self-inside.limits;
  edges : l.self-inside.edges ≡ l.initial.self-inside.edges;
  inputs : l.self-inside.inputs ≡ l.initial.self-inside.inputs;
  notes : l.self-inside.notes ≡ l.initial.self-inside.notes;
  due : l.self-inside.due ≡ l.initial.self-inside.due;
  desk : l.self-inside.desk ≡ l.initial.self-inside.desk;
  rights : AreChanged (given_back l.taken l.hart l.count) l.initial.self-inside.rights.items l.self-inside.rights.items l.page;
}
