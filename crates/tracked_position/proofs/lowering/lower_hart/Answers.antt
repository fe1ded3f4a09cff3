use Rattle.std.proofs.Common.{◌<◌, sym, subst, arith}
use Rattle.ft_types.specs.Counts.{count_at}
use Rattle.closed_cut.specs.Position.{base_of, pieces_of, Goes}
use Rattle.tracked_position.specs.machinery.Walks.{GoesTo, StopsBefore, EndsAt}
use Rattle.tracked_position.proofs.Cuts.{before_end, stopped}
use Rattle.tracked_position.proofs.lowering.lower_hart.Goals as goal

pub returns-in-None-clause-met : goal.returns-in-None-clause-met
returns-in-None-clause-met c none place piece e from over has less =
    let pieces = pieces_of c.args.store.now c.args.opening.now.term c.args.hart in
    let base = base_of c.args.opening.now c.args.hart in
    let to = c.walk_on-stop.result.cursor in
    let goes : GoesTo pieces (count_at c.args.high.now) c.get.result c.args.cursor to = rw c.term.ensures at c.walk_on-stop.ensures.goes in
    let ends : EndsAt pieces to = rw (c.term.ensures, c.in-None.is) at c.walk_on-stop.ensures.end in
    goes.met place piece e from
    (before_end pieces base to.place to.end place piece (goes.goes base c.requires.goes) ends over) over.one has (omega arith)

pub returns-in-Some-clause-high : goal.returns-in-Some-clause-high
returns-in-Some-clause-high c next high =
    let pieces = pieces_of c.args.store.now c.args.opening.now.term c.args.hart in
    let base = base_of c.args.opening.now c.args.hart in
    let to = c.walk_on-stop.result.cursor in
    let goes : GoesTo pieces (count_at c.args.high.now) c.get.result c.args.cursor to = rw c.term.ensures at c.walk_on-stop.ensures.goes in
    let b : StopsBefore pieces (count_at c.args.high.now) c.get.result to c.in-Some.edge = rw (c.term.ensures, c.in-Some.is) at c.walk_on-stop.ensures.before in
    rw (c.set.ensures, c.in-Some.edge-is)
    (stopped c.args.store.now c.requires.rules c.args.opening.now.term (base_of c.args.opening.now) next c.args.high.now c.args.hart to.place b.piece
    c.in-Some.edge
    high c.requires.hart
    (record { goes = subst (λ n. Goes pieces base to.place n) (sym b.from) (goes.goes base c.requires.goes); one = b.one }) b.least.has (let less :
    c.in-Some.edge.at < c.get.result = b.least.below in omega arith) b.least.unmet)
