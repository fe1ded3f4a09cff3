use Rattle.std.proofs.Common.{◌≡◌}
use Rattle.term_gate.specs.TermGates.{TermGateView}
use Rattle.leading.specs.Hearing.{LetsGo, LetsNothingGo, Notes}
use Rattle.leading.proofs.Hearing.{goes_from, stays_from, rest_from, with_noted_ok, with_noted_err}
use Rattle.leading.proofs.leader.Leader.acknowledge.Goals as goal

pub returns-clause-lets : goal.returns-clause-lets
returns-clause-lets c =
    with_noted_ok (Notes c.args.self.now.primary.sealed c.args.self.now.gate c.args.acknowledgement.now) (λ g. LetsGo c.args.self.now g c.release.new.self) c.release.result
    c.note.new.self.gate c.note.ensures.notes
    (goes_from c.args.self.now c.note.new.self c.release.new.self c.release.result c.note.ensures.rest c.release.ensures.lets)

pub returns-clause-nothing : goal.returns-clause-nothing
returns-clause-nothing c =
    with_noted_err (Notes c.args.self.now.primary.sealed c.args.self.now.gate c.args.acknowledgement.now) (λ g. LetsNothingGo c.args.self.now g c.release.new.self) c.release.result
    c.note.new.self.gate c.note.ensures.notes
    (stays_from c.args.self.now c.note.new.self c.release.new.self c.release.result c.note.ensures.rest c.release.ensures.nothing)

pub returns-clause-rest : goal.returns-clause-rest
returns-clause-rest c = rest_from c.args.self.now c.note.new.self c.release.new.self c.note.ensures.rest c.release.ensures.rest
