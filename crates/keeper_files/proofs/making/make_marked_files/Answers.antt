use Rattle.std.proofs.Common.{[], ◌∷◌, ◌++◌, true, false, refl}
use Rattle.stations.proofs.Does.{does_then}
use Rattle.keeper_files.specs.Deeds.{SawThere, SawMark, Marked, SyncedFolder, Made, SawOwn, SawFences, making_marked, naming}
use Rattle.keeper_files.specs.Owners.{keeps_of}
use Rattle.keeper_files.specs.declared.disk.Part.TheVariants.{Log, Fences}
use Rattle.keeper_files.proofs.making.make_marked_files.Goals as goal

pub returns-clause-made : goal.returns-clause-made
returns-clause-made g c =
    let old = g.D.Disk.deeds c.args.disk in
    let one = g.D.Disk.deeds c.look.new.disk in
    let two = g.D.Disk.deeds c.mark.new.disk in
    let three = g.D.Disk.deeds c.make_both.new.disk in
    let new = g.D.Disk.deeds c.name_keeper.new.disk in
    let log = c.in_ok-own.own in
    let fences = c.in_ok-own.fences in
    let none = SawThere Log false ∷ SawThere Fences false ∷ SawMark false ∷ [] in
    let marked = Marked true ∷ SyncedFolder true ∷ [] in
    let files = Made Log true ∷ Made Fences true ∷ SawOwn log ∷ SawFences fences ∷ [] in
    let made = does_then old two three (none ++ marked) files (does_then old one two none marked c.in_ok-look.ensures.none c.in_ok-mark.ensures.marked)
    c.in_ok-own.ensures.made in (
      fences,
      does_then old three new (making_marked log fences) (naming c.args.guest (keeps_of c.args.keeper c.args.pair log fences)) made c.in_ok-name_keeper.ensures.named,
    )
