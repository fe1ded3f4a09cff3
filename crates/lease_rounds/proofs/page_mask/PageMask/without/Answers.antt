use Rattle.lease_rounds.proofs.Masks.{without_has}
use Rattle.lease_rounds.proofs.page_mask.PageMask.without.Goals as goal

pub returns : goal.returns
returns c =
    rw (← c.self.view_is, ← c.other.view_is)
    (without_has c.self.inside.reads c.self.inside.writes c.other.inside.reads c.other.inside.writes c.either-all.result c.either-all.ensures.pages
    c.left-reads.result c.left-writes.result c.left-reads.ensures.pages c.left-writes.ensures.pages)
