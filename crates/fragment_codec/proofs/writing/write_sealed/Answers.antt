use Rattle.std.proofs.Common.{refl, ◌∙◌}
use Rattle.std.proofs.lemmas.Result.{err_from_is_err_and}
use Rattle.ft_types.proofs.Writings.{appends_then}
use Rattle.fragment_codec.proofs.bytes.Writes.{stops_front, stops_after, stops_equal, writes_then, writes_equal}
use Rattle.fragment_codec.proofs.bytes.Seals.{sealed_parts}
use Rattle.fragment_codec.proofs.writing.write_sealed.Goals as goal

pub returns-in_err-write_all : goal.returns-in_err-write_all
returns-in_err-write_all g c =
    let p = err_from_is_err_and c.from_residual.result c.from_residual.ensures.1 in
    let d = c.finalize-digest.ensures _ (c.update-2.ensures _ (c.update.ensures _ c.new-hasher.ensures)) in
    let e = sealed_parts c.head_of_body-head.result _ c.args.body.now c.finalize-digest.result c.args.version c.args.kind (c.head_of_body-head.ensures c.args.body.now refl)
    c.as_slice.ensures d in
    rw (p.1) (stops_equal _ _ _ _ _ _ e (stops_front _ _ _ _ _ c.finalize-digest.result (stops_front _ _ _ _ c.head_of_body-head.result c.args.body.now
    c.in_err-write_all.ensures)))

pub returns-in_err-write_all-2 : goal.returns-in_err-write_all-2
returns-in_err-write_all-2 g c =
    let p = err_from_is_err_and c.from_residual-in_err-write_all-2.result c.from_residual-in_err-write_all-2.ensures.1 in
    let d = c.finalize-digest.ensures _ (c.update-2.ensures _ (c.update.ensures _ c.new-hasher.ensures)) in
    let e = sealed_parts c.head_of_body-head.result _ c.args.body.now c.finalize-digest.result c.args.version c.args.kind (c.head_of_body-head.ensures c.args.body.now refl)
    c.as_slice.ensures d in
    let first = c.in_ok-write_all.ensures in
    rw (p.1) (stops_equal _ _ _ _ _ _ e (stops_front _ _ _ _ _ c.finalize-digest.result (stops_after _ _ _ _ _ _ c.head_of_body-head.result c.args.body.now
    first.0 first.1 c.in_err-write_all-2.ensures)))

pub returns : goal.returns
returns g c =
    let d = c.finalize-digest.ensures _ (c.update-2.ensures _ (c.update.ensures _ c.new-hasher.ensures)) in
    let e = sealed_parts c.head_of_body-head.result _ c.args.body.now c.finalize-digest.result c.args.version c.args.kind (c.head_of_body-head.ensures c.args.body.now refl)
    c.as_slice.ensures d in
    let first = c.in_ok-write_all.ensures in
    let second = c.in_ok-write_all-2.ensures in
    writes_equal c.write_all-3.result _ _ _ _ _ _ e (writes_then c.write_all-3.result _ _ _ _ _ _ _ c.finalize-digest.result
    (appends_then _ _ _ c.head_of_body-head.result c.args.body.now first.0 second.0) (second.1 ∙ first.1) c.write_all-3.ensures)
