use Rattle.std.proofs.Common.{arith}
use Rattle.pair.proofs.Offered.{last_offered}
use Rattle.pair.proofs.exits.offer.Goals as goal

pub returns-in_ok-offer-clause-last : goal.returns-in_ok-offer-clause-last
returns-in_ok-offer-clause-last c =
    last_offered c.args.gate.now c.offer.new.self c.args.last.now c.args.output c.index.result c.index.ensures.value
    (let w = c.fits-last in let b = c.index.ensures.below in omega arith) c.requires
    (c.is_next.ensures.0 c.if-is_next.true) (record {
      line = c.in_ok-offer.ensures.line;
      offered = c.in_ok-offer.ensures.offered;
      others = c.offer.ensures.others;
    })
