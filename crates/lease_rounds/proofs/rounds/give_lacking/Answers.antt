use Rattle.lease_rounds.specs.Leading.{NoneYet}
use Rattle.lease_rounds.proofs.Filling.{fills_given}
use Rattle.lease_rounds.proofs.rounds.give_lacking.Goals as goal

pub returns-then-full-clause-fills : goal.returns-then-full-clause-fills
returns-then-full-clause-fills g c = NoneYet

pub returns-clause-fills : goal.returns-clause-fills
returns-clause-fills g c =
    fills_given g.M.Mode c.args.book.now c.args.lease.now c.give.result c.give.new.book c.give.new.lease
    (λ full. let no = c.if-full.ensures.1 full in cc)
    c.give.ensures.gives c.give.ensures.book_kept c.give.ensures.lease_kept
