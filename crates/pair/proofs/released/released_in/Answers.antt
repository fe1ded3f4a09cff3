use Rattle.std.proofs.Common.{◌≡◌, ◌++◌, ℕ, List, Some, slice_get, filter, take, arith, ap, sym, subst, ◌∙◌}
use Rattle.std.proofs.lemmas.List.{take_all}
use Rattle.std.proofs.lemmas.List.Elements.{filter-append}
use Rattle.std.proofs.lemmas.Option.{get_or_from_slice_get}
use Rattle.rv32_hart.specs.Hart.{Hart}
use Rattle.ft_types.specs.declared.output.Output.{Output}
use Rattle.primary.specs.Outputs.{numbered}
use Rattle.pair.specs.Released.{is_among}
use Rattle.pair.proofs.Among.{outputs_of, outputs_more}
use Rattle.pair.proofs.released.released_in.Goals as goal

pub loop-number-preserved : goal.loop-number-preserved
loop-number-preserved c =
    let p = is_among c.args.given.now in
    let harts = c.args.machine.now.harts in
    let i = c.loop-number.number in
    let hart = c.hart.result.now in
    let at : slice_get harts i ≡ Some hart = subst (λ (n : ℕ). slice_get harts n ≡ Some hart) c.new-hart.ensures c.hart.ensures in
    let more = numbered c.new-hart.result c.outputs.result.now in
    let added : c.add_given.new.released.items ≡ c.loop-number.released.items ++ filter p more = c.in_ok-add_given.ensures in
    let same : more ≡ numbered i hart.outputs = ap (λ (n : ℕ). numbered n c.outputs.result.now) c.new-hart.ensures ∙ ap (numbered i) c.outputs.ensures in
    added
    ∙ ap (λ (front : List Output). front ++ filter p more) c.loop-number.invariant
    ∙ ap (λ (last : List Output). filter p (outputs_of (take i harts)) ++ filter p last) same
    ∙ sym (ap (filter p) (outputs_more harts i hart (omega arith) (sym (get_or_from_slice_get harts i hart hart at)))
    ∙ filter-append p (outputs_of (take i harts)) (numbered i hart.outputs))

pub returns : goal.returns
returns c =
    c.loop-number.invariant
    ∙ ap (λ (harts : List Hart). filter (is_among c.args.given.now) (outputs_of harts)) (take_all c.loop-number.number c.args.machine.now.harts (omega arith))
