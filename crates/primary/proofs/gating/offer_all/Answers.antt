use Rattle.std.proofs.Common.{◌≡◌, sym, ap, subst, ◌∙◌, arith}
use Rattle.output_gate.specs.Gates.{offered_of}
use Rattle.primary.specs.Outputs.{numbered, said_by, said_at}
use Rattle.primary.proofs.Offers.{offers_on, next_hart, all_offered}
use Rattle.primary.proofs.gating.offer_all.Goals as goal

pub returns-in_err-offer_hart-clause-more : goal.returns-in_err-offer_hart-clause-more
returns-in_err-offer_hart-clause-more c =
    offers_on c.args.gate.now c.loop-number.gate c.offer_hart.new.gate c.loop-number.invariant.more c.in_err-offer_hart.ensures.more

pub loop-number-preserved : goal.loop-number-preserved
loop-number-preserved c =
    let said : c.outputs.result.now ≡ said_at c.args.machine.now c.loop-number.number =
    c.outputs.ensures ∙ ap said_by (sym c.hart.ensures) ∙ ap (said_at c.args.machine.now) c.new-hart.ensures in
    next_hart c.args.gate.now c.loop-number.gate c.offer_hart.new.gate c.args.machine.now c.loop-number.number c.loop-number.invariant
    c.in_ok-offer_hart.ensures.more
    (subst (λ h. offered_of c.offer_hart.new.gate.gate h ≡ numbered h c.outputs.result.now) c.new-hart.ensures c.in_ok-offer_hart.ensures.all
    ∙ ap (numbered c.loop-number.number) said)
    (λ other ne. c.in_ok-offer_hart.ensures.others other (λ e. ne (e ∙ c.new-hart.ensures)))

pub returns-clause-all : goal.returns-clause-all
returns-clause-all c =
    let over = c.loop-number-test.false in
    let many = c.harts-number-end.ensures.value in
    all_offered c.args.gate.now c.loop-number.gate c.args.machine.now c.loop-number.number c.loop-number.invariant (omega (arith, over, many))
