use Rattle.std.proofs.Common.{◌≡◌, Ok, [], ◌∷◌, ap, append_assoc, ◌∙◌}
use Rattle.std.specs.Vec.Iter.{into_iter_items}
use Rattle.pair.specs.Keeping.{IsTaken}
use Rattle.pair.proofs.Taken.{put_taken, taken_more, taken_guest}
use Rattle.pair.proofs.keeping.take_all.Goals as goal

pub loop-frame-preserved : goal.loop-frame-preserved
loop-frame-preserved c =
    let at = c.loop-frame in
    let frame = c.in-Some.frame in
    let steps : into_iter_items at.frame-iterator ≡ frame ∷ into_iter_items c.next.new.self = c.in-Some.ensures.steps.0 in
    let took : IsTaken at.store frame c.put.new.self = put_taken at.store frame c.in_ok-put.field-0 c.put.new.self c.in_ok-put.ensures.answer
    c.in_ok-put.ensures.joined (λ e. c.put.ensures.other_guest (c.in_ok-put.was ∙ ap Ok e)) in
    record {
      taken = taken_more c.args.store.now at.store c.put.new.self at.yielded frame at.invariant.taken took;
      guest = taken_guest at.store frame c.put.new.self took ∙ at.invariant.guest;
      rest = append_assoc at.yielded (frame ∷ []) _ ∙ rw (← steps) at.invariant.rest;
    }
