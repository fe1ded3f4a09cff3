use Rattle.lease_rounds.proofs.Masks.{written_has}
use Rattle.lease_rounds.proofs.page_mask.PageMask.written.Goals as goal

pub returns : goal.returns
returns c = rw (← c.self.view_is) (written_has c.self.inside.reads c.self.inside.writes c.no_page-reads.result c.no_page-reads.ensures.none)
