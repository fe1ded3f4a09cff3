use Rattle.std.proofs.Common.{rules, ◌≡◌, ◌<◌, ◌∙◌, ap, slice_index_or, List, length}
use Rattle.std.proofs.lemmas.List.{get_or_default}
use Rattle.ft_types.specs.declared.names.TheConstants.{HART_LIMIT}
use Rattle.hart_lease.specs.OpenLeases.{lent_with}
use Rattle.ft_types.specs.Counts.{count_at}
use Rattle.input_log.specs.Waiting.{Queues, bells_of, others_of, next_going}
use Rattle.book_modes.specs.Dues.{DueView, nothing_due, due_at, stop_before}
use Rattle.book_modes.specs.Recordings.{RecordingView}
use Rattle.book_modes.proofs.ledger.Lending.{lending_kept, lent_is_due}
use Rattle.book_modes.proofs.recording.RecordingMode.lend.Goals as goal

pub returns-clause-lent : goal.returns-clause-lent
returns-clause-lent c =
    let dues = c.deref-2.result.now in
    let row : c.args.hart < length dues = search rules in
    let there : slice_index_or dues c.index.result c.index-deref-index.result ≡ due_at c.fill_due.new.self.due c.args.hart =
    ap (λ k. slice_index_or dues k c.index-deref-index.result) c.index.ensures.value ∙
    (get_or_default dues c.args.hart c.index-deref-index.result nothing_due row
    ∙ ap (λ (due : List DueView). due_at due c.args.hart) (c.deref-2.ensures ∙ ap (λ (v : RecordingView). v.due) c.self.view_is)) in
    lent_is_due c.args.self.now c.fill_due.new.self c.args.hart c.args.count c.lent.result c.stop_before-stop.result c.fill_due.ensures.filled
    (c.lent.ensures ∙ ap (λ (d : DueView). lent_with c.stop_before-stop.result d.inputs d.edges) there)
    (c.stop_before-stop.ensures ∙
    λ i.
    stop_before ((c.count_of-limit.ensures.value ∙ ap (λ (v : RecordingView). count_at v.limits c.args.hart) (c.self.view_is ∙ c.fill_due.ensures.rest)) i)
    c.args.count
    ((c.next.ensures ∙ ap (λ (desk : List Queues). next_going (bells_of desk c.args.hart) (others_of desk c.args.hart))
    (c.deref.ensures ∙ ap (λ (v : RecordingView). v.desk) c.self.view_is)) i))

pub returns-clause-kept : goal.returns-clause-kept
returns-clause-kept c =
    let below : c.args.hart < HART_LIMIT = search rules in
    lending_kept c.args.self.now c.fill_due.new.self c.args.hart c.args.count c.lent.result below (returns-clause-lent c)
