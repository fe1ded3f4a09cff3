use Rattle.std.proofs.Common.{◌++◌, ◌+◌, ◌∷◌, [], ℕ, List, take, get_or, arith, ap, sym, ◌∙◌, append_assoc}
use Rattle.std.proofs.lemmas.List.{take_all, append-nil, map-append}
use Rattle.ft_types.specs.declared.output.Output.{Output}
use Rattle.wire.specs.declared.answers.Answer.{Answer}
use Rattle.primary.specs.Outputs.{numbered_from}
use Rattle.primary.proofs.Told.{numbered_more}
use Rattle.leading.specs.Telling.{told_in}
use Rattle.leading.proofs.telling.add_known.Goals as goal

pub loop-index-init : goal.loop-index-init
loop-index-init c = sym (append-nil c.args.answers.now.items)

pub loop-index-preserved : goal.loop-index-preserved
loop-index-preserved c =
    let i = c.loop-index.index in
    let one : Output = record {
      hart = c.args.hart;
      number = c.args.first + i;
      step = (get_or c.args.said.now i (0, 0)).0;
      word = (get_or c.args.said.now i (0, 0)).1;
    } in
    let before = c.args.answers.now.items in
    let told : List Output → List Answer = told_in c.args.term in
    let front = numbered_from c.args.hart c.args.first (take i c.args.said.now) in
    c.in_ok-push.ensures.items
    ∙ ap (λ (row : List Answer). row ++ told (one ∷ [])) c.loop-index.invariant
    ∙ append_assoc before (told front) (told (one ∷ []))
    ∙ ap (λ (row : List Answer). before ++ row) (sym (map-append (λ (o : Output). let a : Answer = record { term = c.args.term; output = o } in a) front (one ∷ [])))
    ∙ ap (λ (os : List Output). before ++ told os) (sym (numbered_more c.args.hart c.args.first c.args.said.now i (0, 0) (omega arith)))

pub returns : goal.returns
returns c =
    c.loop-index.invariant
    ∙ ap (λ (said : List (ℕ × ℕ)). c.args.answers.now.items ++ told_in c.args.term (numbered_from c.args.hart c.args.first said))
    (take_all c.loop-index.index c.args.said.now (omega arith))
