use Rattle.std.proofs.Common.{arith}
use Rattle.closed_cut.proofs.Walking.{no_place}
use Rattle.warm_backup.proofs.growing.piece_at.Goals as goal

-- a store has no piece there
pub returns-then-cursor-clause-none : goal.returns-then-cursor-clause-none
returns-then-cursor-clause-none c f one from =
    let low = no_place c.args.store.now c.args.term c.args.hart c.args.cursor.place f c.requires.rules one in
    let high = c.if-cursor.true in
    absurd (omega (arith, low, high))
