use Rattle.std.proofs.Common.{arith, ◌+◌, ◌-◌, drop, take}
use Rattle.std.specs.List.{flat_map}
use Rattle.std.proofs.lemmas.Result.{err_from_is_err_and}
use Rattle.guest_image.proofs.TextFacts.{goes_on, stops, flat_parts, taken_whole}
use Rattle.pair.specs.Printing.{output_line}
use Rattle.pair.proofs.printing.write_outputs.Goals as goal

pub returns-in_err-write_all : goal.returns-in_err-write_all
returns-in_err-write_all g c =
    let p = err_from_is_err_and c.from_residual.result c.from_residual.ensures.1 in
    let first = c.loop-first.first in
    let count = c.min-count.result in
    let outputs = c.args.outputs.now in
    let start = c.put_outputs-start.result in
    let block = c.put_outputs-start.new.block in
    let text = take (4096 - start) (drop start block) in
    stops g.W.Sink.bytes g.W.Sink.failures c.from_residual.result p.0 c.args.out.now c.loop-first.out
    c.write_all.new.out (flat_map output_line outputs) (flat_map output_line (drop first outputs))
    text (flat_map output_line (drop (first + count) outputs)) p.1
    (flat_parts output_line first count outputs text (omega arith)
    (taken_whole 4096 start block _ (omega arith) c.put_outputs-start.ensures.lines))
    c.loop-first.invariant.1 c.in_err-write_all.ensures

pub loop-first-preserved : goal.loop-first-preserved
loop-first-preserved g c =
    let first = c.loop-first.first in
    let count = c.min-count.result in
    let outputs = c.args.outputs.now in
    let start = c.put_outputs-start.result in
    let block = c.put_outputs-start.new.block in
    let text = take (4096 - start) (drop start block) in (
      omega arith,
      goes_on g.W.Sink.bytes g.W.Sink.failures c.args.out.now c.loop-first.out c.write_all.new.out
          (flat_map output_line outputs) (flat_map output_line (drop first outputs)) text
          (flat_map output_line (drop (first + count) outputs))
          (flat_parts output_line first count outputs text (omega arith)
          (taken_whole 4096 start block _ (omega arith) c.put_outputs-start.ensures.lines))
          c.loop-first.invariant.1 c.in_ok-write_all.ensures,
    )
