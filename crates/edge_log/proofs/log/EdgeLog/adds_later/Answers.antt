use Rattle.std.proofs.Common.{◌≡◌, sym, ◌∙◌}
use Rattle.edge_log.proofs.log.EdgeLog.adds_later.Goals as goal

pub returns-then-same_counts : goal.returns-then-same_counts
returns-then-same_counts c =
    let start : c.self.inside.start ≡ c.before-2.inside.start =
    sym c.as_slice.ensures.value ∙ c.same_counts.ensures.0 c.if-same_counts.true ∙ c.as_slice-2.ensures.value in
    rw (← c.self.view_is, ← c.before-2.view_is) (
      λ e. record { start = start; rows = c.rows_say_on.ensures.0 e },
      λ later. c.rows_say_on.ensures.1 later.rows,
    )
