use Rattle.std.proofs.Common.{refl}
use Rattle.lease_rounds.specs.Leading.{Takes}
use Rattle.lease_rounds.proofs.Filling.{alone_as, alone_kept, fills_as, fills_run, keeps, lacks_there, smaller}
use Rattle.lease_rounds.proofs.rounds.fill.Goals as goal

pub loop-lease-init : goal.loop-lease-init
loop-lease-init g c = record { fills = c.give_all.ensures.fills; alone = c.give_all.ensures.alone }

pub give-requires-clause-page : goal.give-requires-clause-page
give-requires-clause-page g c = (lacks_there c.run.new.self c.run.new.self c.in-Miss.page c.in-Miss.want c.steps_of_leases.ensures.lacks
    c.in-Miss.ensures.does.3).0

pub give-requires-clause-lacks : goal.give-requires-clause-lacks
give-requires-clause-lacks g c = (lacks_there c.run.new.self c.run.new.self c.in-Miss.page c.in-Miss.want c.steps_of_leases.ensures.lacks
    c.in-Miss.ensures.does.3).1

pub give-requires-clause-alone : goal.give-requires-clause-alone
give-requires-clause-alone g c =
    alone_kept c.loop-lease.book c.loop-lease.lease c.run.new.self c.run.ensures.lent c.loop-lease.invariant.alone
    (keeps c.in-Miss.ensures.does.0 c.loop-lease.lease c.run.new.self c.steps_of_leases.ensures.counts c.steps_of_leases.ensures.rights
    c.in-Miss.ensures.does.1)

pub returns-in-Done-clause-fills : goal.returns-in-Done-clause-fills
returns-in-Done-clause-fills g c =
    fills_run g.M.Mode c.args.book.now c.args.lease.now c.in-Done.ensures.does.0 c.loop-lease.book c.loop-lease.lease c.run.new.self
    c.loop-lease.invariant.fills c.in-Done.ensures.does.1

pub returns-in-Done-clause-alone : goal.returns-in-Done-clause-alone
returns-in-Done-clause-alone g c =
    alone_kept c.loop-lease.book c.loop-lease.lease c.run.new.self c.run.ensures.lent c.loop-lease.invariant.alone
    (keeps c.in-Done.ensures.does.0 c.loop-lease.lease c.run.new.self c.steps_of_leases.ensures.counts c.steps_of_leases.ensures.rights
    c.in-Done.ensures.does.1)

pub returns-in-Memory-clause-fills : goal.returns-in-Memory-clause-fills
returns-in-Memory-clause-fills g c =
    fills_run g.M.Mode c.args.book.now c.args.lease.now c.in-Memory.ensures.does.0 c.loop-lease.book c.loop-lease.lease c.run.new.self
    c.loop-lease.invariant.fills c.in-Memory.ensures.does.1

pub returns-in-Memory-clause-alone : goal.returns-in-Memory-clause-alone
returns-in-Memory-clause-alone g c =
    alone_kept c.loop-lease.book c.loop-lease.lease c.run.new.self c.run.ensures.lent c.loop-lease.invariant.alone
    (keeps c.in-Memory.ensures.does.0 c.loop-lease.lease c.run.new.self c.steps_of_leases.ensures.counts c.steps_of_leases.ensures.rights
    c.in-Memory.ensures.does.1)

pub returns-in_err-give-in-Miss-clause-fills : goal.returns-in_err-give-in-Miss-clause-fills
returns-in_err-give-in-Miss-clause-fills g c =
    fills_as g.M.Mode c.args.book.now c.args.lease.now c.loop-lease.book c.give.new.book c.run.new.self c.give.new.lease
    (fills_run g.M.Mode c.args.book.now c.args.lease.now c.in-Miss.ensures.does.0 c.loop-lease.book c.loop-lease.lease c.run.new.self
    c.loop-lease.invariant.fills c.in-Miss.ensures.does.1)
    c.in_err-give-in-Miss.ensures.book_kept c.in_err-give-in-Miss.ensures.lease_kept

pub returns-in_err-give-in-Miss-clause-alone : goal.returns-in_err-give-in-Miss-clause-alone
returns-in_err-give-in-Miss-clause-alone g c =
    alone_as c.loop-lease.book c.give.new.book c.run.new.self c.give.new.lease
    (alone_kept c.loop-lease.book c.loop-lease.lease c.run.new.self c.run.ensures.lent c.loop-lease.invariant.alone
    (keeps c.in-Miss.ensures.does.0 c.loop-lease.lease c.run.new.self c.steps_of_leases.ensures.counts c.steps_of_leases.ensures.rights
    c.in-Miss.ensures.does.1))
    c.in_err-give-in-Miss.ensures.book_kept c.in_err-give-in-Miss.ensures.lease_kept

pub loop-lease-preserved : goal.loop-lease-preserved
loop-lease-preserved g c =
    let filled =
    fills_run g.M.Mode c.args.book.now c.args.lease.now c.in-Miss.ensures.does.0 c.loop-lease.book c.loop-lease.lease c.run.new.self
    c.loop-lease.invariant.fills c.in-Miss.ensures.does.1 in
    record {
      fills = Takes c.give.new.book c.give.new.lease filled c.in-Miss.ensures.does.2 c.in_ok-give-in-Miss.ensures.gives;
      alone = c.in_ok-give-in-Miss.ensures.alone;
    }

pub loop-lease-smaller : goal.loop-lease-smaller
loop-lease-smaller g c =
    smaller c.loop-lease.lease c.run.new.self c.give.new.lease
    (keeps c.in-Miss.ensures.does.0 c.loop-lease.lease c.run.new.self c.steps_of_leases.ensures.counts c.steps_of_leases.ensures.rights
    c.in-Miss.ensures.does.1)
    c.in_ok-give-in-Miss.ensures.gives.present c.in_ok-give-in-Miss.ensures.gives.stop c.in_ok-give-in-Miss.ensures.fewer

pub returns-clause-full : goal.returns-clause-full
returns-clause-full g c = c.loop-lease-test.ensures.0 refl
