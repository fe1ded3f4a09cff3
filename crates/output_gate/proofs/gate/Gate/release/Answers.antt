use Rattle.output_gate.proofs.Orders.{of_both, earlier}
use Rattle.output_gate.proofs.gate.Gate.release.Goals as goal

pub returns-clause-earlier : goal.returns-clause-earlier
returns-clause-earlier c = of_both c.release_held.result _ _ _ (λ given is lines. earlier c.args.self.now.need c.args.self.now.noted c.args.self.now
    c.release_held.new.self given.items is lines) c.release_held.ensures.given c.release_held.ensures.lines
