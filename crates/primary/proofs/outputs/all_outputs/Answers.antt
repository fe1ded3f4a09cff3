use Rattle.std.proofs.Common.{◌≡◌, IfOk, subst}
use Rattle.primary.proofs.Told.{since_none}
use Rattle.primary.proofs.outputs.all_outputs.Goals as goal

pub returns : goal.returns
returns c =
    subst (λ xs. IfOk c.outputs_since.result (λ outputs. outputs.items ≡ xs)) (since_none c.none_told.result c.args.machine.now c.none_told.ensures)
    c.outputs_since.ensures
