use Rattle.std.proofs.Common.{ℕ, length, slice_set, ap, ◌∙◌}
use Rattle.std.proofs.lemmas.List.{length-replicate}
use Rattle.wire.proofs.Reading.{if_none}
use Rattle.wire.proofs.Rows.{counts_begin, counts_more, counts_stop}
use Rattle.wire.proofs.fields.Fields.take_counts.Goals as goal

pub loop-number-init : goal.loop-number-init
loop-number-init c = counts_begin c.args.harts c.args.self.now c.zero-counts.result c.zero-counts.ensures
    (ap length c.zero-counts.ensures ∙ length-replicate c.args.harts 0)

pub loop-number-preserved : goal.loop-number-preserved
loop-number-preserved c = counts_more c.args.harts c.loop-number.number c.in_ok-count.count c.args.self.now c.loop-number.self c.take_count.new.self
    c.loop-number.counts c.set.new.self c.loop-number-test.true c.in_ok-count.ensures.found.0 c.in_ok-count.ensures.found.1 (c.set.ensures ∙ ap (λ (i : ℕ). slice_set c.loop-number.counts i c.in_ok-count.count) c.new.ensures)
    c.loop-number.invariant

pub returns-in_err-count-clause-none : goal.returns-in_err-count-clause-none
returns-in_err-count-clause-none c = if_none c.from_residual.result _ (counts_stop c.args.harts c.loop-number.number c.args.self.now c.loop-number.self
    c.loop-number.counts c.loop-number-test.true c.loop-number.invariant c.in_err-count.ensures.none)
