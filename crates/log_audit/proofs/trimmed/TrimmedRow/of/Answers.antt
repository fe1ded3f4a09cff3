use Rattle.std.proofs.Common.{rules, sym, ap, arith, length-take-le, ◌∙◌, ◌++◌, ◌∷◌, [], ◌≡◌, ◌<◌, length, take, slice_get, slice_index, Some}
use Rattle.std.proofs.lemmas.List.{get_or_default}
use Rattle.ft_types.specs.declared.names.TheConstants.{HART_ROW}
use Rattle.log_audit.specs.machinery.Widened.{widened}
use Rattle.log_audit.proofs.Lists.{take_more, get_at}
use Rattle.log_audit.proofs.Trimming.{widened_trimmed}
use Rattle.log_audit.proofs.trimmed.TrimmedRow.of.Goals as goal

pub loop-hart-preserved : goal.loop-hart-preserved
loop-hart-preserved c =
    let lt : c.loop-hart.hart < length c.args.row.now = search rules in
    let there : slice_get c.args.row.now c.loop-hart.hart ≡ Some (slice_index c.args.row.now c.loop-hart.hart) =
    get_at c.args.row.now c.loop-hart.hart (slice_index c.args.row.now c.loop-hart.hart)
    (get_or_default c.args.row.now c.loop-hart.hart 0 (slice_index c.args.row.now c.loop-hart.hart) lt) lt in
    c.in_ok-push.ensures.items
    ∙ ap (λ l. l ++ slice_index c.args.row.now c.loop-hart.hart ∷ []) c.loop-hart.invariant
    ∙ sym (take_more c.args.row.now c.loop-hart.hart (slice_index c.args.row.now c.loop-hart.hart) there)

pub returns : goal.returns
returns c =
    let all : c.loop-hart.hart ≡ c.reach_of-reach.result = search rules in
    let long : length c.args.row.now ≡ HART_ROW = search rules in
    let many : length (take c.reach_of-reach.result c.args.row.now) ≡ c.reach_of-reach.result =
    length-take-le c.reach_of-reach.result c.args.row.now (omega (arith, long, c.reach_of-reach.ensures.few)) in
    ap widened (c.loop-hart.invariant ∙ ap (λ n. take n c.args.row.now) all)
    ∙ widened_trimmed c.args.row.now c.reach_of-reach.result long c.reach_of-reach.ensures.few c.reach_of-reach.ensures.rest many
