use Rattle.std.proofs.Common.{◌≡◌, ◌++◌, ◌⊎◌, ℕ, List, [], ◌∷◌, true, false, sym, subst, ◌∙◌, inl, inr}
use Rattle.wire.specs.Fences.{added_fence}
use Rattle.keeper_files.specs.declared.disk.Part.TheVariants.{Fences}
use Rattle.stations.specs.Acts.{Fenced, Failed, Does}
use Rattle.stations.proofs.Does.{does_then}
use Rattle.keeper_files.specs.Deeds.{Appended, Synced}
use Rattle.keeper_files.specs.Telling.{PutsFence, PutsNoFence, PutsFenceNotForSure, acts_of, marking}
use Rattle.keeper_files.proofs.Calls.{does_acts}
use Rattle.keeper_files.proofs.files.DiskFilesKeeperFiles.add_fence.Goals as goal

pub returns-in-Ok-clause-ok : goal.returns-in-Ok-clause-ok
returns-in-Ok-clause-ok g c =
    let known = c.args.self.now.known in
    let old = g.D.Disk.deeds c.args.self.now.disk in
    let new = g.D.Disk.deeds c.add_synced.new.disk in
    let entry : c.as_slice.result.now ≡ added_fence known.guest c.args.term = c.as_slice.ensures.value ∙ c.fence_entry-entry.ensures in
    let added : Does old new (Appended Fences (added_fence known.guest c.args.term) true ∷ Synced Fences true ∷ []) =
    subst (λ (b : List ℕ). Does old new (Appended Fences b true ∷ Synced Fences true ∷ [])) entry c.in-Ok.ensures.ok in
    does_acts known.guest known.own old new (Appended Fences (added_fence known.guest c.args.term) true ∷ Synced Fences true ∷ []) (Fenced c.args.term ∷ []) added
    (PutsFence c.args.term)

pub returns-in-Err-clause-failed : goal.returns-in-Err-clause-failed
returns-in-Err-clause-failed g c =
    let known = c.args.self.now.known in
    let old = g.D.Disk.deeds c.args.self.now.disk in
    let mid = g.D.Disk.deeds c.add_synced.new.disk in
    let new = g.D.Disk.deeds c.fail.new.disk in
    let term = c.args.term in
    let entry : c.as_slice.result.now ≡ added_fence known.guest term = c.as_slice.ensures.value ∙ c.fence_entry-entry.ensures in
    let marked = c.fail.ensures.marked in
    let fault = c.fail.result in
    let failed : Does (acts_of known.guest known.own old) (acts_of known.guest known.own new) (Failed fault ∷ []) = elim c.in-Err.ensures.failed [
      | inl some ↦
          does_acts known.guest known.own old new (Appended Fences some.0 false ∷ marking marked.0 marked.1) (Failed fault ∷ [])
          (does_then old mid new (Appended Fences some.0 false ∷ []) (marking marked.0 marked.1) some.3 marked.2)
          (PutsNoFence some.0 some.1 term fault marked.0 marked.1 (sym entry ∙ some.2) c.fail.ensures.fault)
      | inr all ↦
          let added : Does old mid (Appended Fences (added_fence known.guest term) true ∷ Synced Fences false ∷ []) =
          subst (λ (b : List ℕ). Does old mid (Appended Fences b true ∷ Synced Fences false ∷ [])) entry all in
          does_acts known.guest known.own old new (Appended Fences (added_fence known.guest term) true ∷ Synced Fences false ∷ marking marked.0 marked.1)
          (Failed fault ∷ [])
          (does_then old mid new (Appended Fences (added_fence known.guest term) true ∷ Synced Fences false ∷ []) (marking marked.0 marked.1) added marked.2)
          (PutsFenceNotForSure term fault marked.0 marked.1 c.fail.ensures.fault)
    ] in
    inl failed
