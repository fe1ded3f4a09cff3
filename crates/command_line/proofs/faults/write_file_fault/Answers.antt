use Rattle.std.proofs.Common.{[], ◌∷◌}
use Rattle.std.specs.Prelude.{codes}
use Rattle.std.proofs.lemmas.Result.{err_from_is_err_and}
use Rattle.log_streams.proofs.Writing.{first_stops, second_stops, third_writes}
use Rattle.command_line.specs.Faults.{in_one_line}
use Rattle.command_line.proofs.faults.write_file_fault.Goals as goal

pub returns-in_err-write_all : goal.returns-in_err-write_all
returns-in_err-write_all g c =
    let p = err_from_is_err_and c.from_residual.result c.from_residual.ensures.1 in
    first_stops g.W.Sink.bytes g.W.Sink.failures c.from_residual.result p.0 c.args.out.now c.write_all.new.out (codes "fault file ") (in_one_line c.args.name.now)
    (10 ∷ []) p.1 c.in_err-write_all.ensures

pub returns-in_err-write_name : goal.returns-in_err-write_name
returns-in_err-write_name g c =
    let p = err_from_is_err_and c.from_residual-in_err-write_name.result c.from_residual-in_err-write_name.ensures.1 in
    second_stops g.W.Sink.bytes g.W.Sink.failures c.from_residual-in_err-write_name.result p.0 c.args.out.now c.write_all.new.out c.write_name.new.out
    (codes "fault file ") (in_one_line c.args.name.now) (10 ∷ []) p.1 c.in_ok-write_all.ensures c.in_err-write_name.ensures

pub returns : goal.returns
returns g c =
    third_writes g.W.Sink.bytes g.W.Sink.failures c.write_all-2.result c.args.out.now c.write_all.new.out c.write_name.new.out c.write_all-2.new.out
    (codes "fault file ") (in_one_line c.args.name.now) (10 ∷ []) c.in_ok-write_all.ensures c.in_ok-write_name.ensures c.write_all-2.ensures
