use Rattle.std.specs.Global.{Vec}
use Rattle.std.proofs.Common.{◌≡◌, ◌<◌, ◌++◌, ℕ, List, [], ◌∷◌, Bool, true, filter, take, length, length-append, ◌∙◌, sym, ap, arith}
use Rattle.ft_types.specs.declared.output.Output.{Output}
use Rattle.output_gate.specs.Gates.{is_held}
use Rattle.output_gate.proofs.Moves.{passes_more, stops_more, one_added}
use Rattle.output_gate.proofs.line.give_each.Goals as goal
use Rattle.output_gate.proofs.line.give_each.Goals.{then-has_enough+in_ok-push, else-has_enough}

pub loop-output-preserved : goal.loop-output-preserved
loop-output-preserved c =
    let p : Output → Bool = is_held c.args.need c.args.noted.now in
    let xs : List Output = c.args.waiting.now in
    let i : ℕ = c.loop-output.output-index in
    let o : Output = c.output-item.result in
    let below : i < length xs = omega arith in
    elim c.if-has_enough.branch [
      | then-has_enough+in_ok-push w ↦
          let passes : p o ≡ true = sym c.has_enough.ensures ∙ w.if-has_enough.true in record {
            given = ap (λ (v : Vec Output). v.items) w.given-is ∙ w.in_ok-push.ensures.items
                ∙ one_added p xs i o c.args.given.now.items c.loop-output.given.items below c.output-item.is passes c.loop-output.invariant.given;
            number = (let n = c.loop-output.invariant.number in let e = ap length (passes_more p xs i o below c.output-item.is passes) in
                let l = length-append (filter p (take i xs)) (o ∷ []) in omega arith);
            few = omega arith;
          }
      | else-has_enough w ↦
          let same = stops_more p xs i o below c.output-item.is (sym c.has_enough.ensures ∙ w.if-has_enough.false) in record {
            given = ap (λ (v : Vec Output). v.items) w.given-is ∙ c.loop-output.invariant.given
                ∙ ap (λ (l : List Output). c.args.given.now.items ++ l) (sym same);
            number = w.held-is ∙ c.loop-output.invariant.number ∙ ap length (sym same);
            few = omega arith;
          }
    ]
