use Rattle.page_book.proofs.Kept.{roomed_book}
use Rattle.page_book.proofs.recorded.Book+Recording.room_for_notes.Goals as goal

pub invariant_of-self : goal.invariant_of-self
invariant_of-self c =
    let i = c.self.inside in
    roomed_book i.mode c.room_for_notes.new.self i.start i.machine i.journal.items i.leases.value c.room_for_notes.ensures.same c.self.invariant
