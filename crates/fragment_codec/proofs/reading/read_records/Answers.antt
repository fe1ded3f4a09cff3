use Rattle.std.proofs.lemmas.Result.{err_from_is_err_and}
use Rattle.fragment_codec.specs.machinery.Reading.{record_at}
use Rattle.fragment_codec.proofs.bytes.Loops.{goes_behind, fails_behind, ends, is_done}
use Rattle.fragment_codec.proofs.reading.read_records.Goals as goal

pub returns-in_err-rest : goal.returns-in_err-rest
returns-in_err-rest c =
    let p = err_from_is_err_and c.from_residual.result c.from_residual.ensures.1 in
    rw (p.1, p.2) (ends (record_at c.args.version c.args.from c.args.hart) c.in_err-rest.field-0.0 c.loop.records.items c.args.count c.loop.counter
    c.loop.rest.now _ c.loop-test.true
    (fails_behind c.in_err-rest.field-0.0 c.loop.records.items (record_at c.args.version c.args.from c.args.hart c.loop.rest.now) c.in_err-rest.ensures)
    c.loop.invariant)

pub loop-preserved : goal.loop-preserved
loop-preserved c =
    goes_behind (record_at c.args.version c.args.from c.args.hart) c.loop.records.items c.args.count c.loop.counter c.loop.rest.now _ _ _ c.loop-test.true
    c.in_ok-rest.ensures c.loop.invariant

pub returns : goal.returns
returns c = is_done (record_at c.args.version c.args.from c.args.hart) c.loop.records.items c.args.count c.loop.counter c.loop.rest.now _ c.loop-test.false c.loop.invariant
