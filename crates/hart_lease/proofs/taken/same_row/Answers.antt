use Rattle.std.proofs.lemmas.Slice.Eq.{slice_eq-Decides}
use Rattle.hart_lease.proofs.pages.Equal.{option_decides, taken_decides}
use Rattle.hart_lease.proofs.taken.same_row.Goals as goal

pub returns : goal.returns
returns c = slice_eq-Decides (option_decides taken_decides) c.args.row.now c.args.other.now c.eq.result c.eq.ensures
