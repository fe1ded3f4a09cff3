use Rattle.std.proofs.Common.{◌≡◌, ◌++◌, ℕ, List, Some, slice_get, slice_index, drop, take, arith, ap, sym, subst, ◌∙◌}
use Rattle.std.proofs.lemmas.List.{take_all}
use Rattle.std.proofs.lemmas.Option.{get_or_from_slice_get}
use Rattle.std.specs.List.{enumerate_from, flat_map}
use Rattle.rv32_hart.specs.Hart.{Hart}
use Rattle.ft_types.specs.declared.output.Output.{Output}
use Rattle.primary.specs.Outputs.{numbered_from}
use Rattle.primary.proofs.Told.{since_more}
use Rattle.primary.proofs.outputs.outputs_since.Goals as goal

pub loop-number-preserved : goal.loop-number-preserved
loop-number-preserved c =
    let harts = c.args.machine.now.harts in
    let told = c.args.told.now in
    let i = c.loop-number.number in
    let hart = c.hart.result.now in
    let at : slice_get harts i ≡ Some hart = subst (λ (n : ℕ). slice_get harts n ≡ Some hart) c.new-hart.ensures c.hart.ensures in
    let of : ℕ → List (ℕ × ℕ) → List Output = λ n said. numbered_from n (slice_index told n) (drop (slice_index told n) said) in
    let more = of c.new-hart.result c.outputs.result.now in
    let added : c.add_untold.new.outputs.items ≡ c.loop-number.outputs.items ++ more = c.in_ok-add_untold.ensures in
    let same : more ≡ of i hart.outputs = ap (λ (n : ℕ). of n c.outputs.result.now) c.new-hart.ensures ∙ ap (of i) c.outputs.ensures in
    added
    ∙ ap (λ (front : List Output). front ++ more) c.loop-number.invariant
    ∙ ap (λ (last : List Output). flat_map (λ h. of h.0 h.1.outputs) (enumerate_from 0 (take i harts)) ++ last) same
    ∙ sym (since_more told harts i hart (omega arith) (sym (get_or_from_slice_get harts i hart hart at)))

pub returns : goal.returns
returns c =
    let told = c.args.told.now in
    c.loop-number.invariant
    ∙ ap (λ (harts : List Hart). flat_map (λ h. numbered_from h.0 (slice_index told h.0) (drop (slice_index told h.0) h.1.outputs)) (enumerate_from 0 harts))
    (take_all c.loop-number.number c.args.machine.now.harts (omega arith))
