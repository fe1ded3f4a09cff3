use Rattle.std.proofs.Common.{◌≡◌, ◌∙◌, ap, true}
use Rattle.crew_pages.specs.Rights.{Right, stands, right_of}
use Rattle.book_modes.specs.Recordings.{RecordingView}
use Rattle.book_modes.proofs.ledger.Lending.{right_stored_there}
use Rattle.book_modes.proofs.ledger.Yielding.{right_read}
use Rattle.book_modes.proofs.recording.RecordingMode.holders.Goals as goal

pub takers-requires : goal.takers-requires
takers-requires c = right_stored_there c.args.self.now c.requires.0 c.args.leases.now c.args.asked.now c.requires.1

-- where no right stands in the asker's way, no lease does
pub returns-then-is_empty : goal.returns-then-is_empty
returns-then-is_empty c = λ g.
    let asked = c.args.asked.now in
    let row = right_stored_there c.args.self.now c.requires.0 c.args.leases.now asked c.requires.1 in
    let read =
    right_read c.args.self.now.rights _ asked.page c.index.result c.index-right.result.now (ap (λ (r : RecordingView). r.rights) c.self.view_is)
    c.index.ensures.value row c.index-right.ensures in (
      λ m. absurd (c.new.ensures g m),
      λ taker. absurd
          (c.is_empty.ensures.none.0 c.if-is_empty.true g
          ((c.against.ensures g).1 (ap (λ (r : Right). stands r asked.hart asked.want g) read ∙ taker.0))),
    )
