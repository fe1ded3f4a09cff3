use Rattle.std.proofs.Common.{◌≡◌, ap, sym, ◌∙◌, refl}
use Rattle.edge_log.specs.EdgeLog.{Edges}
use Rattle.edge_log.proofs.log.EdgeLog.same.Goals as goal

pub returns-then-same_counts : goal.returns-then-same_counts
returns-then-same_counts c =
    let start : c.self.inside.start ≡ c.other.inside.start =
    sym c.as_slice.ensures.value ∙ c.same_counts.ensures.0 c.if-same_counts.true ∙ c.as_slice-2.ensures.value in
    rw (← c.self.view_is, ← c.other.view_is) (λ e. rw (start, c.same_rows.ensures.0 e) refl, λ e. c.same_rows.ensures.1 (ap (λ (x : Edges). x.rows) e))

pub returns-else-same_counts : goal.returns-else-same_counts
returns-else-same_counts c = rw (← c.self.view_is, ← c.other.view_is) (
  λ e. absurd (let no = c.if-same_counts.false in cc),
  λ e. c.same_counts.ensures.1 (c.as_slice.ensures.value ∙ ap (λ (x : Edges). x.start) e ∙ sym c.as_slice-2.ensures.value),
)
