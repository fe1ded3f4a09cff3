use Rattle.std.proofs.Common.{Bool, [], ◌∷◌}
use Rattle.std.proofs.lemmas.Result.{IfOk-at_ok}
use Rattle.stations.specs.Acts.{Does}
use Rattle.stations.proofs.Does.{does_three}
use Rattle.keeper_files.specs.Deeds.{SawThere, SawMark}
use Rattle.keeper_files.specs.declared.disk.Part.TheVariants.{Log, Fences}
use Rattle.keeper_files.proofs.making.look.Goals as goal

pub returns-then-mark-clause-there : goal.returns-then-mark-clause-there
returns-then-mark-clause-there g c = λ same.
    let old = g.D.Disk.deeds c.args.disk.now in
    let one = g.D.Disk.deeds c.is_there.new.self in
    let two = g.D.Disk.deeds c.is_there-2.new.self in
    let new = g.D.Disk.deeds c.is_marked.new.self in
    let log = c.in_ok-log.log in
    let fences = c.in_ok-fences.fences in
    let mark = c.in_ok-mark.mark in (
      SawThere Log log ∷ SawThere Fences fences ∷ SawMark mark ∷ [],
      (tt, (tt, (tt, tt))),
      does_three old one two new (SawThere Log log) (SawThere Fences fences) (SawMark mark)
          (IfOk-at_ok (λ (is : Bool). Does old one (SawThere Log is ∷ [])) c.in_ok-log.ensures.made c.is_there.ensures.ok)
          (IfOk-at_ok (λ (is : Bool). Does one two (SawThere Fences is ∷ [])) c.in_ok-fences.ensures.made c.is_there-2.ensures.ok)
          (IfOk-at_ok (λ (is : Bool). Does two new (SawMark is ∷ [])) c.in_ok-mark.ensures.made c.is_marked.ensures.ok),
    )
