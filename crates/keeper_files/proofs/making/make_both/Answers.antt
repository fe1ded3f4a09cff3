use Rattle.std.proofs.Common.{[], ◌∷◌, true}
use Rattle.std.proofs.lemmas.Result.{IfOk-weaker}
use Rattle.stations.proofs.Does.{does_then}
use Rattle.keeper_files.specs.Deeds.{Made, SawOwn, SawFences}
use Rattle.keeper_files.specs.declared.disk.Part.TheVariants.{Log, Fences}
use Rattle.keeper_files.proofs.making.make_both.Goals as goal

pub returns-clause-made : goal.returns-clause-made
returns-clause-made g c =
    let old = g.D.Disk.deeds c.args.disk.now in
    let one = g.D.Disk.deeds c.make_log.new.disk in
    let new = g.D.Disk.deeds c.make_fences.new.disk in
    IfOk-weaker c.make_fences.result _ _
    (λ r made.
    does_then old one new (Made Log true ∷ []) (Made Fences true ∷ SawOwn r.0 ∷ SawFences r.1 ∷ []) c.in_ok-make_log.ensures.made made)
    c.make_fences.ensures.made
