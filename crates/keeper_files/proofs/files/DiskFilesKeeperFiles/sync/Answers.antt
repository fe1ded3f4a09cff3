use Rattle.std.proofs.Common.{[], ◌∷◌, true, false}
use Rattle.keeper_files.specs.declared.disk.Part.TheVariants.{Log}
use Rattle.stations.specs.Acts.{Synced as WasSynced, Failed}
use Rattle.stations.proofs.Does.{does_then}
use Rattle.keeper_files.specs.Deeds.{Synced}
use Rattle.keeper_files.specs.Telling.{Syncs, SyncsNot, marking}
use Rattle.keeper_files.proofs.Calls.{does_acts}
use Rattle.keeper_files.proofs.files.DiskFilesKeeperFiles.sync.Goals as goal

pub returns-in-Ok-clause-ok : goal.returns-in-Ok-clause-ok
returns-in-Ok-clause-ok g c =
    let known = c.args.self.now.known in
    let old = g.D.Disk.deeds c.args.self.now.disk in
    does_acts known.guest known.own old (g.D.Disk.deeds c.sync.new.self) (Synced Log true ∷ []) (WasSynced ∷ []) c.in-Ok.ensures.ok Syncs

pub returns-in-Err-clause-failed : goal.returns-in-Err-clause-failed
returns-in-Err-clause-failed g c =
    let known = c.args.self.now.known in
    let old = g.D.Disk.deeds c.args.self.now.disk in
    let mid = g.D.Disk.deeds c.sync.new.self in
    let new = g.D.Disk.deeds c.fail.new.disk in
    let marked = c.fail.ensures.marked in
    let fault = c.fail.result in
    let done = does_then old mid new (Synced Log false ∷ []) (marking marked.0 marked.1) c.in-Err.ensures.failed marked.2 in
    does_acts known.guest known.own old new (Synced Log false ∷ marking marked.0 marked.1) (Failed fault ∷ []) done
    (SyncsNot fault marked.0 marked.1 c.fail.ensures.fault)
