use Rattle.std.proofs.Common.{ℕ, List, [], ◌∷◌, refl, sym, subst, inr}
use Rattle.std.proofs.lemmas.Result.{err_from_is_err_and}
use Rattle.fragment_codec.proofs.streams.Rests.{no_fault}
use Rattle.stations.specs.Acts.{SawLog, Failed, Does}
use Rattle.stations.proofs.Does.{does_two}
use Rattle.stations.proofs.Held.{begun}
use Rattle.stations.proofs.station.KeeperStation.begin.Goals as goal

pub returns-clause-begun : goal.returns-clause-begun
returns-clause-begun g c =
    let acts = g.F.KeeperFiles.acts in
    let read = c.in_ok-frames.field-0 in
    let saw : Does (acts c.args.files.now) (acts c.read_log.new.self) (SawLog c.deref.result.now ∷ []) =
    subst (λ (log : List ℕ). Does (acts c.args.files.now) (acts c.read_log.new.self) (SawLog log ∷ [])) (sym c.deref.ensures.value) c.in_ok-log.ensures.ok in
    rw c.in_ok-held-2.ensures (begun c.args.guest c.args.keeper (acts c.args.files.now) (acts c.read_log.new.self) (acts c.cut.new.self) c.deref.result.now read.frames.items read.size read.fault
    (record { keeper = c.args.keeper; store = c.in_ok-held.held; fresh = c.new.result.items; seen = 0 }) c.in_ok-frames.ensures.front (no_fault read.fault c.in_default.not-Some)
    refl c.in_ok-held.ensures.join c.new.ensures.items refl saw c.in_ok-cut.ensures.ok)

pub returns-in_err-cut-clause-fault : goal.returns-in_err-cut-clause-fault
returns-in_err-cut-clause-fault g c =
    let acts = g.F.KeeperFiles.acts in
    let p = err_from_is_err_and c.from_residual-in_err-cut.result c.from_residual-in_err-cut.ensures.1 in
    rw (p.1, p.2) (inr (
      _,
      does_two (acts c.args.files.now) (acts c.read_log.new.self) (acts c.cut.new.self) (SawLog c.in_ok-log.log.items) (Failed _)
          c.in_ok-log.ensures.ok c.in_err-cut.ensures.failed,
    ))
