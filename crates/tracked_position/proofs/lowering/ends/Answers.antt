use Rattle.std.proofs.Common.{◌≡◌, ◌<◌, ◌≤◌, ◌^◌, length, get_or, IfSome, IfNone, arith}
use Rattle.std.proofs.lemmas.List.{get_or_default}
use Rattle.ft_types.specs.declared.names.TheConstants.{HART_LIMIT, HART_ROW}
use Rattle.tracked_position.specs.declared.walk.Ahead.TheVariants.{Unseen}
use Rattle.ft_types.specs.Counts.{count_at}
use Rattle.closed_cut.specs.Position.{base_of, pieces_of, Goes}
use Rattle.closed_cut.proofs.Reach.{base_many}
use Rattle.tracked_position.specs.machinery.Walks.{cursor_at, IsOver, GoesTo, StopsBefore, EndsAt}
use Rattle.std.specs.Option.{option_map}
use Rattle.tracked_position.specs.machinery.Waits.{limited_to}
use Rattle.tracked_position.proofs.Cuts.{end_count, limited_le}
use Rattle.tracked_position.proofs.Stops.{run_last}
use Rattle.tracked_position.proofs.Bounds.{next_end, ends_high, few_harts}
use Rattle.tracked_position.proofs.lowering.ends.Goals as goal

pub set-requires-clause-count : goal.set-requires-clause-count
set-requires-clause-count c =
    let s = c.args.store.now in
    let term = c.args.opening.now.term in
    let number = c.loop-number.number in
    let base = base_of c.args.opening.now in
    let few : s.guest.harts ≤ HART_LIMIT = few_harts s c.requires.rules c.args.opening.now c.requires.opening in
    let many : length c.args.opening.now.base ≡ s.guest.harts = base_many s c.args.opening.now c.requires.rules c.requires.opening in
    let wide : length c.args.cursors.now ≡ HART_ROW = c.type_inv.cursors in
    let here_is : cursor_at c.args.cursors.now number ≡ get_or c.args.cursors.now number c.index-cursors-index.result =
    get_or_default c.args.cursors.now number (record { place = 0; end = 0; ahead = Unseen }) c.index-cursors-index.result (omega arith) in
    let over : IsOver (pieces_of s term number) (base number) (count_at c.args.cut.now) (cursor_at c.args.cursors.now number) =
    c.requires.over number (omega arith) in
    let to : GoesTo (pieces_of s term number) (count_at c.args.cut.now) 0 (cursor_at c.args.cursors.now number) c.walk_on-stop.result.cursor =
    rw (c.term.ensures, c.index.ensures.value, c.new-hart.ensures, ← here_is) at c.walk_on-stop.ensures.goes in
    let less : c.walk_on-stop.result.cursor.end < 2 ^ 48 =
    end_count s c.requires.rules term c.args.opening.now c.requires.opening number c.walk_on-stop.result.cursor.place c.walk_on-stop.result.cursor.end
    (to.goes (base number) over.goes) in
    let le : limited_to c.args.limit.now c.new-hart.result c.walk_on-stop.result.cursor.end ≤ c.walk_on-stop.result.cursor.end =
    limited_le c.args.limit.now c.new-hart.result c.walk_on-stop.result.cursor.end in
    let is : c.limited.result ≡ limited_to c.args.limit.now c.new-hart.result c.walk_on-stop.result.cursor.end = c.limited.ensures in
    omega arith

pub loop-number-preserved : goal.loop-number-preserved
loop-number-preserved c =
    let s = c.args.store.now in
    let term = c.args.opening.now.term in
    let number = c.loop-number.number in
    let base = base_of c.args.opening.now in
    let few : s.guest.harts ≤ HART_LIMIT = few_harts s c.requires.rules c.args.opening.now c.requires.opening in
    let many : length c.args.opening.now.base ≡ s.guest.harts = base_many s c.args.opening.now c.requires.rules c.requires.opening in
    let wide : length c.args.cursors.now ≡ HART_ROW = c.type_inv.cursors in
    let here_is : cursor_at c.args.cursors.now number ≡ get_or c.args.cursors.now number c.index-cursors-index.result =
    get_or_default c.args.cursors.now number (record { place = 0; end = 0; ahead = Unseen }) c.index-cursors-index.result (omega arith) in
    let over : IsOver (pieces_of s term number) (base number) (count_at c.args.cut.now) (cursor_at c.args.cursors.now number) =
    c.requires.over number (omega arith) in
    let stop = c.walk_on-stop.result in
    let to : GoesTo (pieces_of s term number) (count_at c.args.cut.now) 0 (cursor_at c.args.cursors.now number) stop.cursor =
    rw (c.term.ensures, c.index.ensures.value, c.new-hart.ensures, ← here_is) at c.walk_on-stop.ensures.goes in
    let before : IfSome stop.edge (StopsBefore (pieces_of s term number) (count_at c.args.cut.now) 0 stop.cursor) =
    rw (c.term.ensures, c.new-hart.ensures) at c.walk_on-stop.ensures.before in
    let last : IfNone stop.edge (EndsAt (pieces_of s term number) stop.cursor) = rw (c.term.ensures, c.new-hart.ensures) at c.walk_on-stop.ensures.end in
    let goes : Goes (pieces_of s term number) (base number) stop.cursor.place stop.cursor.end = to.goes (base number) over.goes in
    rw (c.set.ensures, c.limited.ensures, c.new-hart.ensures)
    (next_end s term base c.args.limit.now c.args.cut.now c.loop-number.ends number stop.cursor.place stop.cursor.end (omega arith) c.loop-number.invariant goes
    (run_last s c.requires.rules term base (count_at c.args.cut.now) number stop.cursor stop.edge goes before last))

pub returns-clause-high : goal.returns-clause-high
returns-clause-high c =
    let base = c.args.opening.now.base in
    let many : length base ≡ c.args.store.now.guest.harts = base_many c.args.store.now c.args.opening.now c.requires.rules c.requires.opening in
    ends_high c.args.store.now c.requires.rules c.args.opening.now.term (base_of c.args.opening.now) (option_map count_at c.args.limit.now)
    c.args.cut.now c.loop-number.ends c.loop-number.number
    (omega arith) c.requires.cut c.loop-number.invariant
