use Rattle.std.proofs.Common.{[], refl}
use Rattle.book_rows.proofs.logged.ShelfKeeperFiles.add.Goals as goal

pub returns-in-Err-clause-failed : goal.returns-in-Err-clause-failed
returns-in-Err-clause-failed c = ([], c.args.bytes.now, refl, λ done told. tt)
