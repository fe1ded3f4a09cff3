use Rattle.crew_pages.proofs.Histories.{keeps_order}
use Rattle.crew_pages.proofs.order_of_histories.Goals as goal

pub returns : goal.returns
returns c = keeps_order
