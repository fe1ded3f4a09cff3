use Rattle.std.proofs.Common.{◌≡◌, sym, ◌∙◌}
use Rattle.warm_backup.proofs.Begun.{begins_by_rows}
use Rattle.warm_backup.proofs.slices.begins_below.Goals as goal

pub returns-then-same_counts : goal.returns-then-same_counts
returns-then-same_counts c =
    let leg = c.args.leg.now in
    let later = c.args.later.now in
    let start : later.edges.start ≡ leg.edges.start =
    sym (c.as_slice.ensures.value ∙ c.start.ensures) ∙ (c.same_counts.ensures.0 c.if-same_counts.true ∙ (c.as_slice-2.ensures.value ∙ c.start-2.ensures)) in
    let both = begins_by_rows leg later c.args.ends.now c.next-rules.ensures.rules.many start in
    ((λ yes. both.0 (c.rows_begin.ensures.0 yes)), (λ begins. c.rows_begin.ensures.1 (both.1 begins)))

pub returns-else-same_counts : goal.returns-else-same_counts
returns-else-same_counts c = (
  λ yes. absurd (let no = c.if-same_counts.false in cc),
  λ begins.
      c.same_counts.ensures.1
      (c.as_slice.ensures.value ∙ (c.start.ensures ∙ (begins.edges.start ∙ sym (c.as_slice-2.ensures.value ∙ c.start-2.ensures)))),
)
