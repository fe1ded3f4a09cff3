use Rattle.book_modes.proofs.obeying.Edges.{stop_is}
use Rattle.book_modes.proofs.mode.Leg.stop.Goals as goal

pub returns-clause-value : goal.returns-clause-value
returns-clause-value c =
    let leg = c.args.self.now in
    let edge = c.next-next_edge.ensures in
    let input = c.next-next_input.ensures in
    let sooner = c.lesser.ensures in
    let last = c.lesser-2.ensures in
    rw (← c.count_of-end.ensures.value)
    (stop_is leg.edges edge.rules c.args.hart leg.inputs c.count_of-end.result c.args.count c.next-next_edge.result c.next-next_input.result
    (record { found = edge.found; first = edge.first; none = edge.none }) (record { found = input.found; first = input.first; none = input.none })
    c.lesser.result c.lesser-2.result (rw c.count_of-end.ensures.value c.requires) sooner.at_most sooner.least sooner.one last.at_most last.least last.one)
