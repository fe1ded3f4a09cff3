use Rattle.stations.proofs.Does.{does_then}
use Rattle.keeper_files.specs.Deeds.{looking, reading}
use Rattle.keeper_files.proofs.opening.look_at_both.Goals as goal

pub returns-clause-own : goal.returns-clause-own
returns-clause-own g c =
    let old = g.D.Disk.deeds c.args.disk.now in
    let mid = g.D.Disk.deeds c.look.new.disk in
    let new = g.D.Disk.deeds c.read_owner.new.disk in
    let looked = c.in_ok-own.ensures in
    let read = c.in_ok-pair.ensures in
    (looked.0, read.0, read.1, looked.1, read.2, does_then old mid new (looking c.in_ok-own.own looked.0) (reading read.0 read.1) looked.2 read.3)
