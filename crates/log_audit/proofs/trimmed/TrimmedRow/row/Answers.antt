use Rattle.std.proofs.Common.{rules, ap, ◌∙◌, ◌≡◌, ◌++◌, take, drop, replicate, slice_get, slice_set, Some}
use Rattle.ft_types.specs.declared.names.TheConstants.{HART_ROW}
use Rattle.log_audit.proofs.Lists.{one_more_in_place, get_at}
use Rattle.log_audit.proofs.Trimming.{widened_copied}
use Rattle.log_audit.proofs.trimmed.TrimmedRow.row.Goals as goal

pub loop-hart-preserved : goal.loop-hart-preserved
loop-hart-preserved c =
    let there : slice_get c.self.inside.counts.items c.loop-hart.hart ≡ Some c.index.result.now =
    get_at c.self.inside.counts.items c.loop-hart.hart c.index.result.now c.index.ensures (search rules) in
    ap (λ l. slice_set l c.loop-hart.hart c.index.result.now) c.loop-hart.invariant
    ∙ one_more_in_place (replicate HART_ROW 0) c.self.inside.counts.items c.loop-hart.hart c.index.result.now there (search rules)

pub returns : goal.returns
returns c = widened_copied c.self.inside.counts.items c.loop-hart.row (search rules) ∙ c.self.view_is
