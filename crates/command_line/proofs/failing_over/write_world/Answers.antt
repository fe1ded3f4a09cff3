use Rattle.std.proofs.Common.{List, ◌++◌, subst}
use Rattle.std.specs.List.{flat_map}
use Rattle.std.proofs.lemmas.Result.{err_from_is_err_and}
use Rattle.guest_image.proofs.TextFacts.{WritesTo, then_writes, then_stops}
use Rattle.primary.specs.declared.released.Released.{Released}
use Rattle.command_line.specs.FailingOver.{released_line, primary_text}
use Rattle.command_line.proofs.failing_over.write_world.Goals as goal

pub returns-in_err-write_released-clause-written : goal.returns-in_err-write_released-clause-written
returns-in_err-write_released-clause-written g c =
    let p = err_from_is_err_and c.from_residual.result c.from_residual.ensures.1 in
    let written : List Released → Type 0 = λ all. WritesTo g.W.Sink.bytes g.W.Sink.failures c.from_residual.result c.args.out.now c.write_released.new.out
    (flat_map released_line all ++ primary_text c.args.world.now)
    in
    subst written c.released.ensures.value (then_stops g.W.Sink.bytes g.W.Sink.failures c.from_residual.result p.0 c.args.out.now c.write_released.new.out
    (flat_map released_line c.released.result.now) (primary_text c.args.world.now) p.1 c.in_err-write_released.ensures)

pub returns-clause-written : goal.returns-clause-written
returns-clause-written g c =
    let written : List Released → Type 0 = λ all. WritesTo g.W.Sink.bytes g.W.Sink.failures c.write_primary.result c.args.out.now c.write_primary.new.out
    (flat_map released_line all ++ primary_text c.args.world.now)
    in
    subst written c.released.ensures.value (then_writes g.W.Sink.bytes g.W.Sink.failures c.write_primary.result c.args.out.now c.write_released.new.out
    c.write_primary.new.out (flat_map released_line c.released.result.now) (primary_text c.args.world.now) c.in_ok-write_released.ensures
    c.write_primary.ensures)
