use Rattle.std.proofs.Common.{◌≡◌, ℕ, ◌+◌, [], ◌∷◌, ◌++◌, List, length, sym, ap, subst, ◌∙◌, append_assoc, length-append, arith}
use Rattle.std.specs.List.{AllByRecursion}
use Rattle.std.specs.Vec.Iter.{into_iter_items}
use Rattle.guest_image.specs.Image.{ImageContents}
use Rattle.scripts.specs.declared.event.Event.{Event}
use Rattle.scripts.specs.Coming.{MayCome}
use Rattle.command_line.proofs.Applied.{happens_more, refused_applies}
use Rattle.command_line.proofs.failing_over.apply_all.Goals as goal

pub loop-event-preserved : goal.loop-event-preserved
loop-event-preserved c =
    let at = c.loop-event in
    let event = c.in-Some.event in
    let steps : into_iter_items at.event-iterator ≡ event ∷ into_iter_items c.next.new.self = c.in-Some.ensures.steps.0 in
    let left : AllByRecursion (MayCome at.world.image.harts) (event ∷ into_iter_items c.next.new.self) =
    subst (λ (es : List Event). AllByRecursion (MayCome at.world.image.harts) es) steps at.invariant.left in
    let many : length (into_iter_items at.event-iterator) ≡ length (into_iter_items c.next.new.self) + 1 = omega (arith, ap length steps) in
    record {
      left = subst (λ (image : ImageContents). AllByRecursion (MayCome image.harts) (into_iter_items c.next.new.self)) (sym c.apply.ensures.image) left.1;
      lines = omega (arith, at.invariant.lines, many);
      happened = happens_more c.args.world.now at.world c.apply.new.self at.yielded event at.invariant.happened c.in-Ok.ensures.happens;
      number = omega (arith, at.invariant.number, length-append at.yielded (event ∷ []));
      parts = append_assoc at.yielded (event ∷ []) _ ∙ rw (← steps) at.invariant.parts;
    }

pub returns-in-Err : goal.returns-in-Err
returns-in-Err c =
    let at = c.loop-event in
    let event = c.in-Some.event in
    let rest = into_iter_items c.next.new.self in
    let steps : into_iter_items at.event-iterator ≡ event ∷ rest = c.in-Some.ensures.steps.0 in
    let parts : c.args.events.items ≡ at.yielded ++ event ∷ rest =
    sym (ap (λ (xs : List Event). at.yielded ++ xs) (sym steps) ∙ at.invariant.parts ∙ c.into_iter-event-iterator.ensures.into_iter_gives.0) in
    rw c.fault_in.ensures (refused_applies c.args.world.now c.args.events.items at.yielded event rest (at.line + 1) at.world c.apply.new.self parts
    (ap (λ (n : ℕ). n + 1) at.invariant.number) at.invariant.happened c.in-Err.ensures.left c.in-Err.fault c.in-Err.ensures.refused)
