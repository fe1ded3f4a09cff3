use Rattle.hart_replay.specs.Leading.{leg_of}
use Rattle.hart_replay.proofs.rounds.Leases.{free_alone, leads_on, leads_nearer, has_stopped}
use Rattle.hart_replay.proofs.leading.lead.Goals as goal

pub go_round-requires-clause-free : goal.go_round-requires-clause-free
go_round-requires-clause-free c = free_alone

pub loop-book-preserved : goal.loop-book-preserved
loop-book-preserved c =
    leads_on c.args.start (leg_of c.args.leg.now) c.loop-book.book c.go_round.new.book c.loop-book.invariant c.in_ok-go_round.field-0
    c.in_ok-go_round.ensures.rounds c.if-not-branch.false

pub loop-book-smaller : goal.loop-book-smaller
loop-book-smaller c =
    leads_nearer c.args.start (leg_of c.args.leg.now) c.loop-book.book c.go_round.new.book c.loop-book.invariant c.in_ok-go_round.field-0
    c.in_ok-go_round.ensures.rounds c.if-not-branch.false

pub returns-then-not-branch : goal.returns-then-not-branch
returns-then-not-branch c =
    has_stopped c.args.start c.args.leg.now c.loop-book.book c.go_round.new.book c.in_ok-go_round.field-0 c.loop-book.invariant c.in_ok-go_round.ensures.rounds
    c.if-not-branch.true
