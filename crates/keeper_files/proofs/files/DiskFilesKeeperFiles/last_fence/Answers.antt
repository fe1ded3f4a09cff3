use Rattle.std.proofs.Common.{ℕ, List, [], ◌∷◌, sym, subst, inl, inr}
use Rattle.std.proofs.lemmas.Result.{err_from_is_err_and}
use Rattle.wire.specs.Fences.{IsLastFence}
use Rattle.stations.specs.declared.faults.FilesFault.{FilesFault}
use Rattle.stations.specs.Acts.{SawFence, Failed, Does}
use Rattle.stations.proofs.Does.{does_two}
use Rattle.keeper_files.specs.Deeds.{SawName, ReadFences, Unread}
use Rattle.keeper_files.specs.Telling.{IsTold, SeesFence, SeesNoName, SeesAnother, SeesNoFences, acts_of}
use Rattle.keeper_files.proofs.Calls.{does_acts}
use Rattle.keeper_files.proofs.files.DiskFilesKeeperFiles.last_fence.Goals as goal

pub returns-in_err-look-clause-failed : goal.returns-in_err-look-clause-failed
returns-in_err-look-clause-failed g c =
    let known = c.args.self.now.known in
    let old = g.D.Disk.deeds c.args.self.now.disk in
    let new = g.D.Disk.deeds c.look.new.disk in
    let fault = c.in_err-look.field-0.0 in
    let p = err_from_is_err_and c.from_residual.result c.from_residual.ensures.1 in
    let failed : Does (acts_of known.guest known.own old) (acts_of known.guest known.own new) (Failed fault ∷ []) = elim c.in_err-look.ensures.failed [
      | inl unseen ↦ does_acts known.guest known.own old new (Unread ∷ []) (Failed fault ∷ []) unseen (SeesNoName fault)
      | inr moved ↦
          let told : IsTold known.guest known.own (SawName moved.1 ∷ []) (Failed fault ∷ []) =
          subst (λ (f : FilesFault). IsTold known.guest known.own (SawName moved.1 ∷ []) (Failed f ∷ [])) (sym moved.0) (SeesAnother moved.1 moved.2) in
          does_acts known.guest known.own old new (SawName moved.1 ∷ []) (Failed fault ∷ []) moved.3 told
    ] in
    rw (p.1, p.2) failed

pub returns-in-Ok-clause-ok : goal.returns-in-Ok-clause-ok
returns-in-Ok-clause-ok g c =
    let known = c.args.self.now.known in
    let old = g.D.Disk.deeds c.args.self.now.disk in
    let mid = g.D.Disk.deeds c.look.new.disk in
    let new = g.D.Disk.deeds c.read_fences.new.self in
    let seen = c.in_ok-look.ensures.ok in
    let bytes = c.in-Ok.bytes.items in
    let fence = c.last_fence.result in
    let last : IsLastFence known.guest bytes fence = subst (λ (b : List ℕ). IsLastFence known.guest b fence) c.deref.ensures.value c.last_fence.ensures in
    does_acts known.guest known.own old new (SawName seen.0 ∷ ReadFences bytes ∷ []) (SawFence fence ∷ [])
    (does_two old mid new (SawName seen.0) (ReadFences bytes) seen.2 c.in-Ok.ensures.ok) (SeesFence seen.0 bytes fence seen.1 last)

pub returns-in-Err-clause-failed : goal.returns-in-Err-clause-failed
returns-in-Err-clause-failed g c =
    let known = c.args.self.now.known in
    let old = g.D.Disk.deeds c.args.self.now.disk in
    let mid = g.D.Disk.deeds c.look.new.disk in
    let new = g.D.Disk.deeds c.read_fences.new.self in
    let seen = c.in_ok-look.ensures.ok in
    let fault = c.fault_of.result in
    does_acts known.guest known.own old new (SawName seen.0 ∷ Unread ∷ []) (Failed fault ∷ [])
    (does_two old mid new (SawName seen.0) Unread seen.2 c.in-Err.ensures.failed) (SeesNoFences seen.0 fault seen.1 c.fault_of.ensures)
