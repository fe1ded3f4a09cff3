use Rattle.std.proofs.Common.{⊎_elim}
use Rattle.lease_rounds.proofs.page_mask.PageMask.none.Goals as goal

pub returns : goal.returns
returns c page has = ⊎_elim (c.no_page.ensures.none page) (c.no_page-2.ensures.none page) has
