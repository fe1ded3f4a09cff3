use Rattle.std.proofs.Common.{◌≡◌, ◌++◌, List, [], ◌∷◌, ap, sym, ◌∙◌, arith, append_assoc, filter, take}
use Rattle.ft_types.specs.declared.output.Output.{Output}
use Rattle.primary.specs.Outputs.{numbered}
use Rattle.pair.specs.Released.{is_among, output_at}
use Rattle.pair.proofs.Among.{kept_more, left_more}
use Rattle.pair.proofs.released.add_given.Goals as goal
use Rattle.pair.proofs.released.add_given.Goals.{then-index+in_ok-push, else-index}

pub loop-number-preserved : goal.loop-number-preserved
loop-number-preserved c =
    let p = is_among c.args.given.now in
    let i = c.loop-number.number in
    let said = c.args.said.now in
    let before = c.args.released.now.items in
    let told : c.index.result.now ≡ p (output_at c.args.hart said i) =
    c.index.ensures ∙ c.in_ok-marks.ensures.marks i c.index.result.now (omega arith) in
    elim c.if-index.branch [
      | then-index+in_ok-push w ↦ ap (λ v. v.items) w.released-is ∙ w.in_ok-push.ensures.items
          ∙ ap (λ (xs : List Output). xs ++ output_at c.args.hart said i ∷ []) c.loop-number.invariant
          ∙ append_assoc before (filter p (numbered c.args.hart (take i said))) (output_at c.args.hart said i ∷ [])
          ∙ ap (λ (xs : List Output). before ++ xs) (sym (kept_more p c.args.hart said i (omega arith) (sym told ∙ w.if-index.true)))
      | else-index w ↦ ap (λ v. v.items) w.released-is ∙ c.loop-number.invariant
          ∙ ap (λ (xs : List Output). before ++ xs) (sym (left_more p c.args.hart said i (omega arith) (sym told ∙ w.if-index.false)))
    ]
