use Rattle.std.proofs.Common.{[], ◌∷◌, ◌++◌, true}
use Rattle.std.proofs.lemmas.Result.{IfOk-weaker}
use Rattle.stations.proofs.Does.{does_then}
use Rattle.keeper_files.specs.Deeds.{Locked, opening, looking, reading}
use Rattle.keeper_files.specs.declared.disk.Part.TheVariants.{Log}
use Rattle.keeper_files.proofs.opening.open_log.Goals as goal

pub returns-clause-own : goal.returns-clause-own
returns-clause-own g c =
    let old = g.D.Disk.deeds c.args.disk.now in
    let one = g.D.Disk.deeds c.open.new.disk in
    let two = g.D.Disk.deeds c.lock.new.disk in
    let new = g.D.Disk.deeds c.look_at_both.new.disk in
    let locked = does_then old one two (opening Log) (Locked Log true ∷ []) c.in_ok-open.ensures c.in_ok-lock.ensures in
    IfOk-weaker c.look_at_both.result _ _ (λ known p.
    (p.0, p.1, p.2, p.3, p.4, does_then old two new (opening Log ++ Locked Log true ∷ []) (looking known.own p.0 ++ reading p.1 p.2) locked p.5))
    c.look_at_both.ensures.own
