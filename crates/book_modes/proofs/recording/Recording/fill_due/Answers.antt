use Rattle.std.proofs.Common.{refl}
use Rattle.book_modes.proofs.ledger.NewDue.{takes_nothing}
use Rattle.book_modes.proofs.recording.Recording.fill_due.Goals as goal

pub returns-then-is_quiet-clause-filled : goal.returns-then-is_quiet-clause-filled
returns-then-is_quiet-clause-filled c =
    takes_nothing c.args.self.now c.args.hart c.args.count c.if-is_quiet.ensures.row (c.if-is_quiet.ensures.due refl) (c.if-is_quiet.ensures.next refl)
