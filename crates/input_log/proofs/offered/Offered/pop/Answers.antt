use Rattle.std.proofs.Common.{refl, sym, ◌∙◌}
use Rattle.input_log.proofs.offered.Offered.pop.Goals as goal

pub returns-in-Some-pop : goal.returns-in-Some-pop
returns-in-Some-pop c =
    let given = c.in_default.ensures in
    let due = c.in-Some-pop.ensures in
    record { first = sym c.self.view_is ∙ rw (given.first, given.none, due.first) refl; none = tt }
