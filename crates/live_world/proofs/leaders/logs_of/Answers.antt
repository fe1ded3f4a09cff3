use Rattle.std.proofs.Common.{ℕ, ◌<◌, List, length, take, get_or, arith, ap, sym, subst, ◌∙◌}
use Rattle.std.proofs.lemmas.List.{take_all}
use Rattle.live_world.specs.declared.hand.HandedTo.{HandedTo}
use Rattle.live_world.specs.Grants.{HasLogs}
use Rattle.live_world.proofs.Logs.{logs_more, not_whole}
use Rattle.live_world.proofs.leaders.logs_of.Goals as goal

pub loop-number-preserved : goal.loop-number-preserved
loop-number-preserved c =
    let within : c.loop-number.number-index < length c.args.numbers.now = omega arith in
    let below : get_or c.args.numbers.now c.loop-number.number-index 0 < length c.args.handed.now = omega arith in
    logs_more c.args.handed.now c.args.numbers.now c.loop-number.number-index c.index-handed-number.result c.as_slice.result.now within below
    c.index-handed-number.is (c.as_slice.ensures.value ∙ ap (λ (h : HandedTo). h.bytes.items) (sym c.index-handed-number.is)) c.args.guest c.in-Ok.log c.loop-number.logs.items c.make_room.new.items.items
    c.push_reserved.new.self.items c.in-Ok.ensures.given c.in_ok-make_room-in-Ok.ensures.same c.push_reserved.ensures.items c.loop-number.invariant

pub returns-in-Err-clause-refused : goal.returns-in-Err-clause-refused
returns-in-Err-clause-refused c =
    let within : c.loop-number.number-index < length c.args.numbers.now = omega arith in
    let below : get_or c.args.numbers.now c.loop-number.number-index 0 < length c.args.handed.now = omega arith in
    λ image quorum term same.
    not_whole c.args.handed.now c.args.numbers.now c.loop-number.number-index c.index-handed-number.result c.as_slice.result.now within below
    c.index-handed-number.is (c.as_slice.ensures.value ∙ ap (λ (h : HandedTo). h.bytes.items) (sym c.index-handed-number.is)) c.args.guest c.in-Err.fault c.in-Err.ensures.fault image same

pub returns-clause-logs : goal.returns-clause-logs
returns-clause-logs c =
    subst (λ (numbers : List ℕ). HasLogs c.args.guest c.args.handed.now numbers c.loop-number.logs.items)
    (take_all c.loop-number.number-index c.args.numbers.now (omega arith)) c.loop-number.invariant
