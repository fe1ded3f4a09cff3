use Rattle.std.proofs.Common.{◌≡◌, ℕ, List, [], ◌∷◌, true, ap, ◌∙◌, subst}
use Rattle.std.proofs.lemmas.Result.{IfOk-weaker}
use Rattle.ft_types.specs.Text.{line}
use Rattle.wire.specs.Pairs.{keeps_text}
use Rattle.wire.specs.declared.keeps.Inode.{Inode}
use Rattle.wire.specs.declared.keeps.Keeps.{Keeps}
use Rattle.stations.specs.Acts.{Does}
use Rattle.keeper_files.specs.Deeds.{Appended, Synced, SyncedFolder, inode_of}
use Rattle.keeper_files.specs.declared.disk.Part.TheVariants.{Log, Fences}
use Rattle.keeper_files.proofs.making.name_keeper.Goals as goal

pub returns-clause-named : goal.returns-clause-named
returns-clause-named g c =
    let old = g.D.Disk.deeds c.args.disk.now in
    let new = g.D.Disk.deeds c.name.new.disk in
    let log = c.args.log.now in
    let fences = c.args.fences.now in
    let text : Inode → Inode → List ℕ = λ l f. line (keeps_text c.args.guest.now (record { keeper = c.args.keeper; pair = c.args.pair; log = l; fences = f })) in
    let first : c.as_slice.result.now ≡ text (inode_of log) (inode_of fences) =
    c.as_slice.ensures.value ∙ c.keeps_line-first.ensures ∙ ap (λ (l : Inode). text l c.inode-2.result) c.inode.ensures
    ∙ ap (λ (f : Inode). text (inode_of log) f) c.inode-2.ensures in
    IfOk-weaker c.name.result _ _
    (λ u named. subst (λ (b : List ℕ). Does old new (Appended Fences b true ∷ Synced Log true ∷ Synced Fences true ∷ SyncedFolder true ∷ [])) first named)
    c.name.ensures.named
