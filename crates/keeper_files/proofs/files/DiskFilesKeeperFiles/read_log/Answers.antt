use Rattle.std.proofs.Common.{[], ◌∷◌}
use Rattle.stations.specs.Acts.{SawLog, Failed}
use Rattle.keeper_files.specs.Deeds.{ReadLog, Unread}
use Rattle.keeper_files.specs.Telling.{SeesLog, SeesNoLog}
use Rattle.keeper_files.proofs.Calls.{does_acts}
use Rattle.keeper_files.proofs.files.DiskFilesKeeperFiles.read_log.Goals as goal

pub returns-in-Ok-clause-ok : goal.returns-in-Ok-clause-ok
returns-in-Ok-clause-ok g c =
    let known = c.args.self.now.known in
    let old = g.D.Disk.deeds c.args.self.now.disk in
    let bytes = c.in-Ok.bytes.items in
    does_acts known.guest known.own old (g.D.Disk.deeds c.read_log.new.self) (ReadLog bytes ∷ []) (SawLog bytes ∷ []) c.in-Ok.ensures.ok (SeesLog bytes)

pub returns-in-Err-clause-failed : goal.returns-in-Err-clause-failed
returns-in-Err-clause-failed g c =
    let known = c.args.self.now.known in
    let old = g.D.Disk.deeds c.args.self.now.disk in
    does_acts known.guest known.own old (g.D.Disk.deeds c.read_log.new.self) (Unread ∷ []) (Failed c.fault_of.result ∷ []) c.in-Err.ensures.failed
    (SeesNoLog c.fault_of.result c.fault_of.ensures)
