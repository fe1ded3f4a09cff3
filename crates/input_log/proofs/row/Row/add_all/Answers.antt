use Rattle.std.proofs.Common.{◌+◌, ◌≤◌, ◌++◌, All, length, map, ℕ, List, sym, ap, subst, ◌∙◌}
use Rattle.ft_types.specs.declared.names.TheConstants.{INPUT_LIMIT}
use Rattle.input_log.specs.declared.Input.{Input}
use Rattle.input_log.specs.Inputs.{inputs_at}
use Rattle.input_log.proofs.Rows.{row_push_all, zip_push_all}
use Rattle.input_log.proofs.row.Row.add_all.Goals as goal

pub invariant_of-self-2 : goal.invariant_of-self-2
invariant_of-self-2 c =
    rw (c.in_ok-push_all.ensures.counts, c.in_ok-push_all.ensures.inputs)
    (row_push_all c.self.inside.counts.items c.self.inside.inputs.items c.args.count c.args.inputs.now c.self.invariant
    (subst (λ (r : List (ℕ × Input)). All (λ x. x.0 ≤ c.args.count) r) (sym c.self.view_is) c.requires.last)
    (subst (λ (r : List (ℕ × Input)). length (inputs_at r c.args.count) + length c.args.inputs.now ≤ INPUT_LIMIT) (sym c.self.view_is) c.requires.room))

pub returns-clause-ok : goal.returns-clause-ok
returns-clause-ok c =
    rw (c.in_ok-push_all.ensures.counts, c.in_ok-push_all.ensures.inputs)
    (zip_push_all c.self.inside.counts.items c.self.inside.inputs.items c.args.count c.args.inputs.now c.self.invariant.paired ∙
    ap (λ r. r ++ map (λ i. (c.args.count, i)) c.args.inputs.now) c.self.view_is)
