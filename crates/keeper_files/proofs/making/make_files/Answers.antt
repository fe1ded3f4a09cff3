use Rattle.std.proofs.Common.{[], ◌∷◌, ◌++◌, true, false}
use Rattle.std.proofs.lemmas.Result.{IfOk-weaker, err_from_is_err_and}
use Rattle.stations.specs.Acts.{Does}
use Rattle.stations.proofs.Does.{does_then}
use Rattle.keeper_files.specs.Deeds.{SawThere, SawMark, Made, SawOwn, SawFences, making, naming}
use Rattle.keeper_files.specs.Owners.{keeps_of}
use Rattle.keeper_files.specs.declared.disk.Part.TheVariants.{Log, Fences}
use Rattle.keeper_files.proofs.making.make_files.Goals as goal

pub returns-in_err-log-clause-there : goal.returns-in_err-log-clause-there
returns-in_err-log-clause-there g c =
    let old = g.D.Disk.deeds c.args.disk.now in
    let one = g.D.Disk.deeds c.look.new.disk in
    let new = g.D.Disk.deeds c.make_both.new.disk in
    let none = SawThere Log false ∷ SawThere Fences false ∷ SawMark false ∷ [] in
    let p = err_from_is_err_and c.from_residual-in_err-log.result c.from_residual-in_err-log.ensures.1 in
    rw (p.1, p.2) (λ same. (
      none ++ Made Log false ∷ [],
      (tt, (tt, (tt, (tt, tt)))),
      does_then old one new none (Made Log false ∷ []) c.in_ok-look.ensures.none (c.in_err-log.ensures.there same),
    ))

pub returns-clause-made : goal.returns-clause-made
returns-clause-made g c =
    let old = g.D.Disk.deeds c.args.disk.now in
    let one = g.D.Disk.deeds c.look.new.disk in
    let two = g.D.Disk.deeds c.make_both.new.disk in
    let new = g.D.Disk.deeds c.name_keeper.new.disk in
    let guest = c.args.guest.now in
    let log = c.in_ok-log.log in
    let fences = c.in_ok-log.fences in
    let none = SawThere Log false ∷ SawThere Fences false ∷ SawMark false ∷ [] in
    let files = Made Log true ∷ Made Fences true ∷ SawOwn log ∷ SawFences fences ∷ [] in
    let made = does_then old one two none files c.in_ok-look.ensures.none c.in_ok-log.ensures.made in
    IfOk-weaker c.name_keeper.result _ _ (λ u named. (
      log,
      fences,
      does_then old two new (making log fences) (naming guest (keeps_of c.args.keeper c.args.pair log fences)) made named,
    )) c.name_keeper.ensures.named
