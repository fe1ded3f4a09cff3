use Rattle.lease_rounds.proofs.Masks.{to_read, to_write}
use Rattle.lease_rounds.proofs.page_mask.PageMask.of.Goals as goal

pub returns-in-Read : goal.returns-in-Read
returns-in-Read c = rw c.in-Read.is (to_read c.one_page-one.result c.no_page-none.result c.args.page c.one_page-one.ensures.one c.no_page-none.ensures.none)

pub returns-in-Write : goal.returns-in-Write
returns-in-Write c = rw c.in-Write.is (to_write c.no_page-none.result c.one_page-one.result c.args.page c.no_page-none.ensures.none c.one_page-one.ensures.one)
