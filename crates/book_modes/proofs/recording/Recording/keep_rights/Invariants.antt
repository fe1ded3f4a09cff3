use Rattle.std.proofs.Common.{◌≡◌}
use Rattle.lease_ledger.specs.Calls.{kept}
use Rattle.book_modes.specs.Recordings.{keep_as}
use Rattle.book_modes.proofs.ledger.ChangedRights.{AreChanged}
use Rattle.book_modes.proofs.recording.Recording.keep_rights.Given as goal

abbrev pub invariant-loop-page : goal.invariant-loop-page
invariant-loop-page l = record {
  limits : l.self-inside.limits ≡ l.initial.self-inside.limits;
  edges : l.self-inside.edges ≡ l.initial.self-inside.edges;
  inputs : l.self-inside.inputs ≡ l.initial.self-inside.inputs;
  notes : l.self-inside.notes ≡ l.initial.self-inside.notes;
  due : l.self-inside.due ≡ l.initial.self-inside.due;
  desk : l.self-inside.desk ≡ l.initial.self-inside.desk;
  rights : AreChanged (λ page right. kept (keep_as l.keep) right l.hart l.count) l.initial.self-inside.rights.items l.self-inside.rights.items l.page;
}
