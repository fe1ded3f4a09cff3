use Rattle.std.proofs.Common.{◌≡◌, [], ◌∷◌, ap, append_assoc, ◌∙◌}
use Rattle.std.specs.Vec.Iter.{into_iter_items}
use Rattle.output_gate.specs.Gates.{GateView}
use Rattle.pair.proofs.Offered.{taken_in_more}
use Rattle.pair.proofs.exits.offer_all.Goals as goal

pub loop-output-preserved : goal.loop-output-preserved
loop-output-preserved c =
    let at = c.loop-output in
    let output = c.in-Some.output in
    let steps : into_iter_items at.output-iterator ≡ output ∷ into_iter_items c.next.new.self = c.in-Some.ensures.steps.0 in
    record {
      taken = taken_in_more c.args.gate.now at.gate c.offer.new.gate at.yielded output at.invariant.taken c.in_ok-offer.ensures.offered;
      last = c.in_ok-offer.ensures.last;
      lines = c.offer.ensures.rest ∙ ap (λ (g : GateView). record g { lines = c.offer.new.gate.lines }) at.invariant.lines;
      rest = append_assoc at.yielded (output ∷ []) _ ∙ rw (← steps) at.invariant.rest;
    }
