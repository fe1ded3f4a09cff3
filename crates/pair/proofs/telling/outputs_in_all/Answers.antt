use Rattle.std.proofs.Common.{◌≡◌, ◌+◌, ℕ, List, Some, length, slice_get, take, arith, ap, sym, subst, ◌∙◌}
use Rattle.std.proofs.lemmas.List.{take_all}
use Rattle.std.proofs.lemmas.Option.{get_or_from_slice_get}
use Rattle.rv32_hart.specs.Hart.{Hart}
use Rattle.pair.proofs.Among.{outputs_of, count_more}
use Rattle.pair.proofs.telling.outputs_in_all.Goals as goal

pub loop-number-preserved : goal.loop-number-preserved
loop-number-preserved c =
    let harts = c.args.machine.now.harts in
    let i = c.loop-number.number in
    let hart = c.hart.result.now in
    let at : slice_get harts i ≡ Some hart = subst (λ (n : ℕ). slice_get harts n ≡ Some hart) c.new.ensures c.hart.ensures in
    let more : length (outputs_of (take (i + 1) harts)) ≡ length (outputs_of (take i harts)) + length hart.outputs =
    count_more harts i hart (omega arith) (sym (get_or_from_slice_get harts i hart hart at)) in
    let said : length c.outputs.result.now ≡ length hart.outputs = ap length c.outputs.ensures in
    record { count = omega (arith, more, said); limit = omega arith }

pub returns : goal.returns
returns c = c.loop-number.invariant.count ∙ ap (λ (harts : List Hart). length (outputs_of harts)) (take_all c.loop-number.number c.args.machine.now.harts (omega arith))
