use Rattle.std.proofs.Common.{slice_index_or, ◌∙◌, arith}
use Rattle.std.proofs.lemmas.Option.{slice_get-get_or}
use Rattle.primary.specs.Outputs.{numbered}
use Rattle.primary.proofs.Rows.{take_all}
use Rattle.primary.proofs.Offers.{numbered_many, next_number}
use Rattle.primary.proofs.gating.offer_hart.Goals as goal

pub loop-number-preserved : goal.loop-number-preserved
loop-number-preserved c =
    let lt = c.loop-number-test.true in
    next_number c.args.gate.now c.loop-number.gate c.offer.new.self c.args.hart c.loop-number.number c.args.outputs.now
    (slice_index_or c.args.outputs.now c.loop-number.number (0, 0)) c.loop-number.invariant
    (slice_get-get_or c.args.outputs.now c.loop-number.number (0, 0) (omega (arith, lt))) c.in_ok-offer.ensures.line c.in_ok-offer.ensures.offered c.in_ok-offer.ensures.others
    c.in_ok-offer.ensures.rest

pub returns-clause-all : goal.returns-clause-all
returns-clause-all c =
    let over = c.loop-number-test.false in
    let many = numbered_many c.args.hart c.args.outputs.now in
    c.loop-number.invariant.offered ∙ take_all (numbered c.args.hart c.args.outputs.now) c.loop-number.number (omega (arith, over, many))
