use Rattle.std.proofs.Common.{ℕ, ap, sym, ◌∙◌}
use Rattle.std.proofs.lemmas.List.{length-replicate}
use Rattle.ft_types.specs.declared.names.TheConstants.{HART_ROW}
use Rattle.crew_pages.specs.machinery.Reach.{reach_of}
use Rattle.crew_pages.proofs.Reaches.{none_at, reach_none}
use Rattle.crew_pages.proofs.Left.{none_left, none_blank}
use Rattle.crew_pages.proofs.left_at.LeftAt.none.Goals as goal

pub invariant_of-result : goal.invariant_of-result
invariant_of-result c =
    rw c.no_counts.ensures
    (record {
      flag_each = c.has_row.ensures;
      count_each = length-replicate {A = ℕ} HART_ROW 0;
      blank = none_blank c.new-harts.result HART_ROW;
      reaches = ap reach_of (none_left c.new-harts.result HART_ROW c.new-harts.ensures) ∙ reach_none HART_ROW;
    })

pub returns : goal.returns
returns c = rw (c.no_counts.ensures, none_left c.new-harts.result HART_ROW c.new-harts.ensures) (none_at HART_ROW)
