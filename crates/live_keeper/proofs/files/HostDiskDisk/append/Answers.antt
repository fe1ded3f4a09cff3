use Rattle.std.proofs.Common.{[], refl}
use Rattle.std.specs.Prelude.{Result, Ok, Err, OnErr}
use Rattle.live_keeper.proofs.files.HostDiskDisk.append.Goals as goal

-- what holds anyhow holds of an error
anyhow : {T E : Type 0} (r : Result T E) {P : Type 0} → P → OnErr r P
anyhow (Ok it) p = tt
anyhow (Err error) p = p

-- nothing is told of this disk, so that a beginning was added may be said of no bytes
pub returns-in_err-open_file-clause-failed : goal.returns-in_err-open_file-clause-failed
returns-in_err-open_file-clause-failed g c = anyhow c.from_residual.result ([], c.args.bytes.now, refl, λ done told. tt)

pub returns-clause-failed : goal.returns-clause-failed
returns-clause-failed g c = anyhow c.note.result ([], c.args.bytes.now, refl, λ done told. tt)
