use Rattle.lease_rounds.proofs.Masks.{with_has}
use Rattle.lease_rounds.proofs.page_mask.PageMask.with.Goals as goal

pub returns : goal.returns
returns c =
    rw (← c.self.view_is, ← c.other.view_is)
    (with_has c.self.inside.reads c.self.inside.writes c.other.inside.reads c.other.inside.writes c.either-reads.result c.either-writes.result
    c.either-reads.ensures.pages c.either-writes.ensures.pages)
