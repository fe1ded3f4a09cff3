use Rattle.std.proofs.Common.{◌≡◌, ◌<◌, ◌+◌, true, length, get_or, sym, ◌∙◌, ap, arith}
use Rattle.std.proofs.lemmas.List.{get_or_default}
use Rattle.ft_types.specs.declared.names.TheConstants.{HART_LIMIT, HART_ROW}
use Rattle.tracked_position.specs.declared.walk.Ahead.TheVariants.{Unseen}
use Rattle.tracked_position.specs.machinery.Walks.{cursor_at}
use Rattle.closed_cut.specs.Position.{pieces_of}
use Rattle.tracked_position.proofs.Bounds.{passed_over}
use Rattle.tracked_position.proofs.Later.{ahead_last}
use Rattle.tracked_position.proofs.taking.pass.Goals as goal

pub returns : goal.returns
returns c store term base cut piece rules passed none are =
    let cursors = c.args.cursors.now in
    let at = c.args.key.now.hart in
    let is : c.index-index.result ≡ at = c.index-index.ensures.value in
    let below : c.index-index.result < HART_LIMIT = c.index-index.ensures.below in
    let less : at < HART_LIMIT = omega arith in
    let wide : length cursors ≡ HART_ROW = c.told-cursors in
    let here_is : cursor_at cursors at ≡ get_or cursors at c.index-cursors-index.result =
    get_or_default cursors at (record { place = 0; end = 0; ahead = Unseen }) c.index-cursors-index.result (omega arith) in
    let place_is : c.args.key.now.place ≡ (cursor_at cursors at).place = cc in
    let end_is : c.args.from ≡ (cursor_at cursors at).end = cc in
    let met_is : c.args.met ≡ true = cc in
    rw (is, ← here_is)
    (passed_over store rules term base cut cursors at c.args.to piece less wide
    (record { one = rw (← place_is) passed.one; from_is = passed.from_is ∙ end_is; to_is = passed.to_is; meets = λ _. passed.meets met_is })
    c.behind_it.result
    (rw c.behind_it.ensures (ahead_last (pieces_of store term at) cut ((cursor_at cursors at).place + 1) c.args.to c.args.last (rw (← place_is) none))) are)
