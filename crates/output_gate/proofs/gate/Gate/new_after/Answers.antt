use Rattle.ft_types.specs.Counts.{count_at}
use Rattle.output_gate.proofs.Gates.{gate_fresh}
use Rattle.output_gate.proofs.gate.Gate.new_after.Goals as goal

pub invariant_of-result : goal.invariant_of-result
invariant_of-result c =
    gate_fresh c.args.keepers c.args.need c.nothing_noted.result c.lines_after.result (count_at c.args.marks.now) c.requires.2 c.requires.0 c.requires.1
    c.nothing_noted.ensures.rows c.nothing_noted.ensures.wide c.lines_after.ensures.harts c.lines_after.ensures.each
