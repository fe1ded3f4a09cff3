use Rattle.std.proofs.Common.{◌≡◌, drop}
use Rattle.fragment_codec.specs.Rules.{has_note}
use Rattle.fragment_codec.proofs.frame.has_note.Given as goal

abbrev pub invariant-loop-record : goal.invariant-loop-record
invariant-loop-record l = has_note (drop l.record-index l.records) ≡ has_note l.records
