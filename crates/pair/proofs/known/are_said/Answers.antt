use Rattle.std.proofs.Common.{◌≡◌, ◌+◌, ◌<◌, ◌++◌, ◌∷◌, [], ⊎_elim, List, Some, length, slice_get, take, arith, ap, subst, sym, ◌∙◌}
use Rattle.std.specs.List.{Contains}
use Rattle.std.proofs.lemmas.List.{take_more, take_all}
use Rattle.std.proofs.lemmas.List.Elements.{Contains-push_cases}
use Rattle.ft_types.specs.declared.output.Output.{Output}
use Rattle.primary.specs.Outputs.{said_at}
use Rattle.pair.proofs.known.are_said.Goals as goal

pub loop-output-init : goal.loop-output-init
loop-output-init c = λ o there. (let below : there.0 < 0 = there.1 in absurd (omega (arith, below)))

pub loop-output-preserved : goal.loop-output-preserved
loop-output-preserved c = λ o there.
    let released = c.args.released.now in
    let i = c.loop-output.output-index in
    let item = c.output-item.result in
    let more : take (i + 1) released ≡ take i released ++ item ∷ [] =
    take_more released i item (omega arith) ∙ ap (λ (x : Output). take i released ++ x ∷ []) (sym c.output-item.is) in
    ⊎_elim (λ (was : Contains (take i released) o). c.loop-output.invariant o was)
    (λ (is : item ≡ o). subst (λ (x : Output). slice_get (said_at c.args.machine.now x.hart) x.number ≡ Some (x.step, x.word)) is
    (c.is_said.ensures c.if-not-is_said.false))
    (Contains-push_cases (take i released) item o (subst (λ (xs : List Output). Contains xs o) more there))

pub returns : goal.returns
returns c = λ yes o there.
    c.loop-output.invariant o
    (subst (λ (xs : List Output). Contains xs o) (sym (take_all c.loop-output.output-index c.args.released.now (omega arith))) there)
