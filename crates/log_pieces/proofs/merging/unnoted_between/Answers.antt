use Rattle.std.proofs.Common.{ℕ, AllPairs, filter, sym, ap, subst, ◌∙◌}
use Rattle.std.proofs.lemmas.List.Kept.{AllPairs-filter}
use Rattle.std.proofs.lemmas.Result.{IfOk-weaker}
use Rattle.edge_log.specs.declared.Edge.{Edge}
use Rattle.input_log.specs.declared.Input.{Input}
use Rattle.edge_log.specs.EdgeLog.{row_of}
use Rattle.edge_log.specs.Rows.{ComesBefore}
use Rattle.input_log.specs.Inputs.{inputs_of}
use Rattle.fragment_codec.specs.Facts.{is_between}
use Rattle.log_pieces.proofs.cuts.Between.{told_parts}
use Rattle.log_pieces.proofs.merging.unnoted_between.Goals as goal

pub merged-requires-clause-edges : goal.merged-requires-clause-edges
merged-requires-clause-edges c =
    subst (AllPairs ComesBefore) (sym c.edges_between-edges.ensures)
    (AllPairs-filter ComesBefore (λ (e : Edge). is_between c.args.from c.args.to e.at) c.of_hart.result.now c.of_hart.ensures.rising)

pub returns-clause-told : goal.returns-clause-told
returns-clause-told c =
    let edges = c.args.edges.now in
    let inputs = c.args.inputs.now in
    IfOk-weaker c.merged.result _ _
    (λ v told.
    told_parts c.args.from c.args.to (row_of edges c.args.hart) _ (inputs_of inputs c.args.hart) _ v.items
    (c.edges_between-edges.ensures ∙ ap (filter (λ (e : Edge). is_between c.args.from c.args.to e.at)) c.of_hart.ensures.value)
    (c.inputs_between.ensures.value ∙ ap (filter (λ (x : ℕ × Input). is_between c.args.from c.args.to x.0)) c.of_hart-2.ensures.value) told)
    c.merged.ensures.told
