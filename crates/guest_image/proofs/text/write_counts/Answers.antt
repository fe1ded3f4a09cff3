use Rattle.std.proofs.Common.{arith, ◌+◌, drop, get_or}
use Rattle.std.proofs.lemmas.Result.{err_from_is_err_and}
use Rattle.guest_image.specs.Text.{numbered, count_line}
use Rattle.guest_image.proofs.TextFacts.{goes_on, stops, numbered_at}
use Rattle.guest_image.proofs.text.write_counts.Goals as goal

pub returns-in_err-write_count : goal.returns-in_err-write_count
returns-in_err-write_count g c =
    let p = err_from_is_err_and c.from_residual.result c.from_residual.ensures.1 in
    stops g.W.Sink.bytes g.W.Sink.failures c.from_residual.result p.0 c.args.out.now c.loop-i.out
    c.write_count.new.out (numbered (count_line c.args.name.now) 0 c.args.counts.now)
    (numbered (count_line c.args.name.now) c.loop-i.i (drop c.loop-i.i c.args.counts.now))
    ((count_line c.args.name.now) c.loop-i.i (get_or c.args.counts.now c.loop-i.i 0))
    (numbered (count_line c.args.name.now) (c.loop-i.i + 1) (drop (c.loop-i.i + 1) c.args.counts.now)) p.1
    (numbered_at (count_line c.args.name.now) c.loop-i.i (c.loop-i.i + 1) c.loop-i.i c.args.counts.now 0 (omega arith) c.loop-i-test.true) c.loop-i.invariant
    c.in_err-write_count.ensures

pub loop-i-preserved : goal.loop-i-preserved
loop-i-preserved g c = goes_on g.W.Sink.bytes g.W.Sink.failures c.args.out.now c.loop-i.out c.write_count.new.out
    (numbered (count_line c.args.name.now) 0 c.args.counts.now)
    (numbered (count_line c.args.name.now) c.loop-i.i (drop c.loop-i.i c.args.counts.now))
    ((count_line c.args.name.now) c.loop-i.i (get_or c.args.counts.now c.loop-i.i 0))
    (numbered (count_line c.args.name.now) (c.loop-i.i + 1) (drop (c.loop-i.i + 1) c.args.counts.now))
    (numbered_at (count_line c.args.name.now) c.loop-i.i (c.loop-i.i + 1) c.loop-i.i c.args.counts.now 0 (omega arith) c.loop-i-test.true) c.loop-i.invariant
    c.in_ok-write_count.ensures
