use Rattle.std.proofs.Common.{◌≡◌, ◌<◌, ℕ, List, [], ◌∷◌, Bool, true, false, filter, take, length, get_or, length-append, ◌∙◌, sym, ap, arith}
use Rattle.ft_types.specs.declared.output.Output.{Output}
use Rattle.output_gate.specs.Gates.{is_held}
use Rattle.output_gate.proofs.Moves.{passes_more, stops_more, same_next, moved, stayed}
use Rattle.output_gate.proofs.line.bring_held.Goals as goal
use Rattle.output_gate.proofs.line.bring_held.Goals.{then-has_enough, else-has_enough}

pub loop-place-preserved : goal.loop-place-preserved
loop-place-preserved c =
    let p : Output → Bool = is_held c.args.need c.args.noted.now in
    let xs : List Output = c.args.waiting.now in
    let i : ℕ = c.loop-place.place in
    let o : Output = c.index-waiting-place.result in
    let below : i < length xs = omega arith in
    let is : o ≡ get_or xs i o = same_next p xs i below c.loop-place.waiting o c.loop-place.invariant.order c.index-waiting-place.is in
    elim c.if-has_enough.branch [
      | then-has_enough w ↦
          let passes : p o ≡ true = ap p c.index-waiting-place.is ∙ sym c.has_enough.ensures ∙ w.if-has_enough.true in record {
            order = w.waiting-is ∙ moved p xs i below c.loop-place.waiting w.move_to_front.new.outputs o c.loop-place.invariant.order is passes
                (λ before between rest x e l m. w.move_to_front.ensures before between rest x e (l ∙ sym c.loop-place.invariant.number) (omega arith));
            number = (let n = c.loop-place.invariant.number in let e = ap length (passes_more p xs i o below is passes) in let l = length-append (filter p (take i xs)) (o ∷ []) in
                omega arith);
            few = omega arith;
          }
      | else-has_enough w ↦
          let stops : p o ≡ false = ap p c.index-waiting-place.is ∙ sym c.has_enough.ensures ∙ w.if-has_enough.false in record {
            order = w.waiting-is ∙ stayed p xs i below c.loop-place.waiting o c.loop-place.invariant.order is stops;
            number = w.held-is ∙ c.loop-place.invariant.number ∙ ap length (sym (stops_more p xs i o below is stops));
            few = omega arith;
          }
    ]
