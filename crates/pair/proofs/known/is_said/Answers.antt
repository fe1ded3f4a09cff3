use Rattle.std.proofs.Common.{◌≡◌, ℕ, List, Some, slice_get, ap, subst, sym, ◌∙◌}
use Rattle.primary.specs.Outputs.{said_by, said_at}
use Rattle.pair.proofs.known.is_said.Goals as goal

pub returns : goal.returns
returns c = λ yes.
    let output = c.args.output.now in
    let said : c.outputs.result.now ≡ said_at c.args.machine.now output.hart = c.outputs.ensures ∙ ap said_by (sym c.hart.ensures) in
    subst (λ (xs : List (ℕ × ℕ)). slice_get xs output.number ≡ Some (output.step, output.word)) said (c.stands_in.ensures yes)
