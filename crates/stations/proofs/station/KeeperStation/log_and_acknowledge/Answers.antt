use Rattle.std.proofs.Common.{◌≡◌, ◌∙◌, ℕ, max, List, [], ◌∷◌, ap, subst, inr}
use Rattle.std.specs.Prelude.{option_map}
use Rattle.std.proofs.lemmas.Result.{err_from_is_err_and}
use Rattle.log_join.specs.Stores.{StoreView}
use Rattle.stations.specs.Acts.{Added, Synced, SawFence, Failed, Does}
use Rattle.stations.specs.Stations.{StationView, Answers, said_of}
use Rattle.stations.proofs.Does.{does_three}
use Rattle.stations.proofs.station.KeeperStation.log_and_acknowledge.Goals as goal

pub returns-in_err-fence-clause-failed : goal.returns-in_err-fence-clause-failed
returns-in_err-fence-clause-failed g c =
    let acts = g.F.KeeperFiles.acts in
    let fault = c.in_err-fence.field-0.0 in
    let same : c.deref.result.now ≡ c.args.self.fresh = c.deref.ensures.value ∙ ap (λ (s : StationView). s.fresh) c.self.view_is in
    let p = err_from_is_err_and c.from_residual-in_err-fence.result c.from_residual-in_err-fence.ensures.1 in
    rw (p.1, p.2) (inr (inr (subst (λ (fresh : List ℕ). Does (acts c.args.files.now) (acts c.last_fence.new.self) (Added fresh ∷ Synced ∷ Failed fault ∷ [])) same
    (does_three (acts c.args.files.now) (acts c.add.new.self) (acts c.sync.new.self) (acts c.last_fence.new.self) (Added c.deref.result.now) Synced
    (Failed fault) c.in_ok-add.ensures.ok c.in_ok-sync.ensures.ok c.in_err-fence.ensures.failed))))

pub returns-clause-acts : goal.returns-clause-acts
returns-clause-acts g c =
    let acts = g.F.KeeperFiles.acts in
    let same : c.deref.result.now ≡ c.args.self.fresh = c.deref.ensures.value ∙ ap (λ (s : StationView). s.fresh) c.self.view_is in
    let seen : c.self.inside.seen ≡ c.args.self.seen = ap (λ (s : StationView). s.seen) c.self.view_is in (
      c.in_ok-fence.fence,
      subst (λ (fresh : List ℕ). Does (acts c.args.files.now) (acts c.last_fence.new.self) (Added fresh ∷ Synced ∷ SawFence c.in_ok-fence.fence ∷ [])) same
          (does_three (acts c.args.files.now) (acts c.add.new.self) (acts c.sync.new.self) (acts c.last_fence.new.self) (Added c.deref.result.now) Synced
          (SawFence c.in_ok-fence.fence) c.in_ok-add.ensures.ok c.in_ok-sync.ensures.ok c.in_ok-fence.ensures.ok),
      c.max-seen.ensures ∙ ap (λ (n : ℕ). max n c.in_ok-fence.fence) seen,
    )

pub returns-clause-says : goal.returns-clause-says
returns-clause-says g c =
    let store : c.self.inside.held.value ≡ c.args.self.store = ap (λ (s : StationView). s.store) c.self.view_is in
    let keeper : c.self.inside.keeper ≡ c.args.self.keeper = ap (λ (s : StationView). s.keeper) c.self.view_is in (
      c.acknowledged.result,
      subst (λ (s : StoreView). Answers s c.max-seen.result c.acknowledged.result) store (rw c.deref-2.ensures at c.acknowledged.ensures.answers),
      c.said_by-said.ensures ∙ ap (λ (k : ℕ). option_map (said_of k) c.acknowledged.result) keeper,
    )
