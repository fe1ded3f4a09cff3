use Rattle.std.proofs.Common.{◌≡◌, ◌<◌, length, arith}
use Rattle.log_streams.specs.declared.faults.StreamsFault.TheVariants.{Read}
use Rattle.std.proofs.lemmas.Option.{slice_get-get_or}
use Rattle.std.proofs.lemmas.Result.{err_from_is_err_and}
use Rattle.fragment_codec.proofs.streams.Faults.{fault_more}
use Rattle.log_streams.proofs.Lifted.{read_more, first_of_streams, behind_same, one_failed, one_right}
use Rattle.log_streams.proofs.reading.read_store.Goals as goal

pub returns-in_err-read_into-clause-fault : goal.returns-in_err-read_into-clause-fault
returns-in_err-read_into-clause-fault g c =
    let at = c.loop-stream in
    let test = c.loop-stream-test.true in
    let count = at.invariant.count in
    let lt : at.stream < length at.readers = omega (arith, count, test) in
    let p = err_from_is_err_and c.from_residual.result c.from_residual.ensures.1 in
    rw (p.1, p.2) (first_of_streams g.R.Source.left g.R.Source.failures c.args.guest.now c.args.readers.now at.readers at.stream _ c.read_into.new.reader
    at.store c.in_err-read_into.field-0.0 fault_more lt
    (slice_get-get_or at.readers at.stream c.index-readers-stream.result lt) at.invariant c.in_err-read_into.ensures.fault)

pub returns-in_err-read_into-clause-behind : goal.returns-in_err-read_into-clause-behind
returns-in_err-read_into-clause-behind g c =
    let at = c.loop-stream in
    let p = err_from_is_err_and c.from_residual.result c.from_residual.ensures.1 in
    rw (p.1, p.2) (behind_same g.R.Source.left g.R.Source.failures c.args.guest.now c.args.readers.now at.readers at.stream _ c.read_into.new.reader at.store
    c.in_err-read_into.field-0.0 at.store.guest at.invariant c.in_err-read_into.ensures.fault)

pub returns-in_err-read_into-clause-failed : goal.returns-in_err-read_into-clause-failed
returns-in_err-read_into-clause-failed g c =
    let at = c.loop-stream in
    let test = c.loop-stream-test.true in
    let count = at.invariant.count in
    let lt : at.stream < length at.readers = omega (arith, count, test) in
    let p = err_from_is_err_and c.from_residual.result c.from_residual.ensures.1 in
    rw (p.1, p.2) (one_failed g.R.Source.left g.R.Source.failures c.args.guest.now c.args.readers.now at.readers at.stream _ c.read_into.new.reader at.store
    c.in_err-read_into.field-0.0 at.store.guest lt
    (slice_get-get_or at.readers at.stream c.index-readers-stream.result lt) at.invariant c.in_err-read_into.ensures.fault c.in_err-read_into.ensures.failures)

pub returns-in_err-read_into-clause-right : goal.returns-in_err-read_into-clause-right
returns-in_err-read_into-clause-right g c =
    let at = c.loop-stream in
    let test = c.loop-stream-test.true in
    let count = at.invariant.count in
    let lt : at.stream < length at.readers = omega (arith, count, test) in
    let p = err_from_is_err_and c.from_residual.result c.from_residual.ensures.1 in
    rw (p.1, p.2) (λ i reader later is.
    let fault : c.in_err-read_into.field-0.0 ≡ Read i = cc in
    one_right g.R.Source.left g.R.Source.failures c.args.guest.now c.args.readers.now at.readers at.stream _ c.read_into.new.reader at.store
    c.in_err-read_into.field-0.0 lt
    (slice_get-get_or at.readers at.stream c.index-readers-stream.result lt) at.invariant c.in_err-read_into.ensures.fault
    (λ e. c.in_err-read_into.ensures.right (cc)) i reader later fault)

pub loop-stream-preserved : goal.loop-stream-preserved
loop-stream-preserved g c =
    let at = c.loop-stream in
    let test = c.loop-stream-test.true in
    let count = at.invariant.count in
    let lt : at.stream < length at.readers = omega (arith, count, test) in
    read_more g.R.Source.left g.R.Source.failures c.args.guest.now c.args.readers.now at.readers at.stream _ c.read_into.new.reader at.store
    c.read_into.new.store lt
    (slice_get-get_or at.readers at.stream c.index-readers-stream.result lt) at.invariant c.in_ok-read_into.ensures.ok c.in_ok-read_into.ensures.kept
