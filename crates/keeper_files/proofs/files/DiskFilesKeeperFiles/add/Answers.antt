use Rattle.std.proofs.Common.{[], ◌∷◌, true, false}
use Rattle.keeper_files.specs.declared.disk.Part.TheVariants.{Log}
use Rattle.stations.specs.Acts.{Added, Failed}
use Rattle.stations.proofs.Does.{does_then}
use Rattle.keeper_files.specs.Deeds.{Appended}
use Rattle.keeper_files.specs.Telling.{Adds, AddsNot, marking}
use Rattle.keeper_files.proofs.Calls.{does_acts}
use Rattle.keeper_files.proofs.files.DiskFilesKeeperFiles.add.Goals as goal

pub returns-in-Ok-clause-ok : goal.returns-in-Ok-clause-ok
returns-in-Ok-clause-ok g c =
    let known = c.args.self.now.known in
    let old = g.D.Disk.deeds c.args.self.now.disk in
    let bytes = c.args.bytes.now in
    does_acts known.guest known.own old (g.D.Disk.deeds c.append.new.self) (Appended Log bytes true ∷ []) (Added bytes ∷ []) c.in-Ok.ensures.ok (Adds bytes)

pub returns-in-Err-clause-failed : goal.returns-in-Err-clause-failed
returns-in-Err-clause-failed g c =
    let known = c.args.self.now.known in
    let old = g.D.Disk.deeds c.args.self.now.disk in
    let mid = g.D.Disk.deeds c.append.new.self in
    let new = g.D.Disk.deeds c.fail.new.disk in
    let some = c.in-Err.ensures.failed in
    let marked = c.fail.ensures.marked in
    let fault = c.fail.result in
    let done = does_then old mid new (Appended Log some.0 false ∷ []) (marking marked.0 marked.1) some.3 marked.2 in (
      some.0,
      some.1,
      some.2,
      does_acts known.guest known.own old new (Appended Log some.0 false ∷ marking marked.0 marked.1) (Added some.0 ∷ Failed fault ∷ []) done
          (AddsNot some.0 fault marked.0 marked.1 c.fail.ensures.fault),
    )
