use Rattle.std.proofs.Common.{◌++◌, [], ◌∷◌, ℕ, List, sym, ap, subst, ◌∙◌}
use Rattle.input_log.specs.declared.Input.{Input}
use Rattle.input_log.specs.Inputs.{MayFollow}
use Rattle.input_log.proofs.Rows.{row_push, zip_push}
use Rattle.input_log.proofs.row.Row.add.Goals as goal

pub invariant_of-self-2 : goal.invariant_of-self-2
invariant_of-self-2 c =
    rw (c.in_ok-push_both.ensures.counts, c.in_ok-push_both.ensures.inputs)
    (row_push c.self.inside.counts.items c.self.inside.inputs.items c.args.count c.args.input c.self.invariant
    (subst (λ (r : List (ℕ × Input)). MayFollow r c.args.count) (sym c.self.view_is) c.requires))

pub returns-clause-ok : goal.returns-clause-ok
returns-clause-ok c =
    rw (c.in_ok-push_both.ensures.counts, c.in_ok-push_both.ensures.inputs)
    (zip_push c.self.inside.counts.items c.self.inside.inputs.items c.args.count c.args.input c.self.invariant.paired ∙
    ap (λ r. r ++ (c.args.count, c.args.input) ∷ []) c.self.view_is)
