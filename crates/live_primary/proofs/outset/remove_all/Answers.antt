use Rattle.std.proofs.Common.{◌<◌, ◌++◌, ◌∷◌, [], length, map, take, ap, sym, ◌∙◌, arith}
use Rattle.std.proofs.lemmas.List.{take_more, map-append}
use Rattle.live_primary.proofs.outset.remove_all.Goals as goal

pub loop-number-preserved : goal.loop-number-preserved
loop-number-preserved g c =
    let names = c.args.names.now in
    let i = c.loop-number.number in
    let file = c.in-Ok.file in
    let within : i < length names = omega arith in (
      ap (map (λ file. file.name)) c.push_reserved.ensures.items ∙ map-append (λ file. file.name) c.loop-number.removed.items (file ∷ [])
          ∙ ap (λ gone. gone ++ file.name ∷ []) c.loop-number.invariant.0 ∙ ap (λ n. take i names ++ n ∷ []) c.in-Ok.ensures
          ∙ sym (take_more names i (record { ref_ptr = (0, 0); now = [] }) within),
      omega arith,
    )
