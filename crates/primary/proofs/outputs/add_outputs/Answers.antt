use Rattle.std.proofs.Common.{◌++◌, ◌+◌, ◌∷◌, [], ℕ, List, take, get_or, arith, ap, sym, ◌∙◌, append_assoc}
use Rattle.std.proofs.lemmas.List.{take_all, append-nil}
use Rattle.ft_types.specs.declared.output.Output.{Output}
use Rattle.primary.specs.Outputs.{numbered_from}
use Rattle.primary.proofs.Told.{numbered_more}
use Rattle.primary.proofs.outputs.add_outputs.Goals as goal

pub loop-index-init : goal.loop-index-init
loop-index-init c = sym (append-nil c.args.outputs.now.items)

pub loop-index-preserved : goal.loop-index-preserved
loop-index-preserved c =
    let i = c.loop-index.index in
    let one : Output = record {
      hart = c.args.hart;
      number = c.args.first + i;
      step = (get_or c.args.said.now i (0, 0)).0;
      word = (get_or c.args.said.now i (0, 0)).1;
    } in
    c.in_ok-push.ensures.items
    ∙ ap (λ (front : List Output). front ++ one ∷ []) c.loop-index.invariant
    ∙ append_assoc c.args.outputs.now.items (numbered_from c.args.hart c.args.first (take i c.args.said.now)) (one ∷ [])
    ∙ ap (λ (more : List Output). c.args.outputs.now.items ++ more) (sym (numbered_more c.args.hart c.args.first c.args.said.now i (0, 0) (omega arith)))

pub returns : goal.returns
returns c =
    c.loop-index.invariant
    ∙ ap (λ (said : List (ℕ × ℕ)). c.args.outputs.now.items ++ numbered_from c.args.hart c.args.first said) (take_all c.loop-index.index c.args.said.now (omega arith))
