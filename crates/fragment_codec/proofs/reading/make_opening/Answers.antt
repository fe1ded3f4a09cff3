use Rattle.std.proofs.Common.{sym, subst}
use Rattle.fragment_codec.specs.Rules.{OpeningParts, IsOpening}
use Rattle.fragment_codec.proofs.bytes.Fields.{some_is}
use Rattle.fragment_codec.proofs.records.Rules.{opening_counts}
use Rattle.fragment_codec.proofs.reading.make_opening.Goals as goal

pub returns-in-None : goal.returns-in-None
returns-in-None c = λ o e h.
    let parts : OpeningParts = record { guest = c.args.guest; term = c.args.term; parent = c.args.parent; base = c.args.base.now } in
    let q = c.in-None.ensures.exact.1 (opening_counts parts (subst IsOpening (sym (some_is parts o e)) h)) in cc
