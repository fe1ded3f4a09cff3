use Rattle.std.proofs.Common.{[], ◌∷◌, true, false}
use Rattle.stations.specs.Acts.{CutTo, Failed}
use Rattle.keeper_files.specs.Deeds.{Cut}
use Rattle.keeper_files.specs.Telling.{Cuts, CutsNot}
use Rattle.keeper_files.proofs.Calls.{does_acts}
use Rattle.keeper_files.proofs.files.DiskFilesKeeperFiles.cut.Goals as goal

pub returns-in-Ok-clause-ok : goal.returns-in-Ok-clause-ok
returns-in-Ok-clause-ok g c =
    let known = c.args.self.now.known in
    let old = g.D.Disk.deeds c.args.self.now.disk in
    does_acts known.guest known.own old (g.D.Disk.deeds c.cut.new.self) (Cut c.args.size true ∷ []) (CutTo c.args.size ∷ []) c.in-Ok.ensures.ok (Cuts c.args.size)

pub returns-in-Err-clause-failed : goal.returns-in-Err-clause-failed
returns-in-Err-clause-failed g c =
    let known = c.args.self.now.known in
    let old = g.D.Disk.deeds c.args.self.now.disk in
    does_acts known.guest known.own old (g.D.Disk.deeds c.cut.new.self) (Cut c.args.size false ∷ []) (Failed c.fault_of.result ∷ []) c.in-Err.ensures.failed
    (CutsNot c.args.size c.fault_of.result c.fault_of.ensures)
