use Rattle.std.proofs.Common.{arith}
use Rattle.std.proofs.lemmas.Bool.{eqb-true, eqb-false}
use Rattle.input_log.proofs.Notings.{ends_in, before_end}
use Rattle.input_log.proofs.note_row.ends_at.Goals as goal

pub returns-clause-ends : goal.returns-clause-ends
returns-clause-ends c is = ends_in c.args.notes.now c.args.count (0, 0) (omega arith) (eqb-true _ _ is)

pub returns-clause-before : goal.returns-clause-before
returns-clause-before c not = before_end c.args.notes.now c.args.count c.requires.rules c.requires.last (omega arith) (eqb-false _ _ not)
