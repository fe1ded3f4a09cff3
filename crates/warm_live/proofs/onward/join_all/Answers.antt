use Rattle.std.proofs.Common.{◌<◌, ◌++◌, ◌∷◌, [], List, map, length, take, arith, ap, subst, sym, ◌∙◌}
use Rattle.std.proofs.lemmas.List.{take_more, take_all, length-map, get_or-map}
use Rattle.log_join.specs.Stores.{StoreView}
use Rattle.go_live.specs.Joined.{AreJoinedTo}
use Rattle.go_live.proofs.Joins.{joined_more}
use Rattle.warm_backup.specs.Backups.{BackupView}
use Rattle.warm_live.proofs.onward.join_all.Goals as goal

pub loop-store-preserved : goal.loop-store-preserved
loop-store-preserved c =
    let stores = c.args.stores.now in
    let i = c.loop-store.store-index in
    let item = c.loop-store-item.result in
    let within : i < length stores = omega arith in
    let one =
    take_more (map (λ s. s.1.now) stores) i item.1.now (rw length-map within)
    ∙ ap (λ (s : StoreView). take i (map (λ s. s.1.now) stores) ++ s ∷ [])
    (get_or-map (λ s. s.1.now) stores i item item.1.now within ∙ ap (λ s. s.1.now) (sym c.loop-store-item.is)) in
    record {
      joined = rw one
          (joined_more c.args.backup.now.store (take i (map (λ s. s.1.now) stores)) item.1.now c.loop-store.backup.store c.join.new.self.store
          c.loop-store.invariant.joined c.in-Ok.ensures.joined);
      rest = c.join.ensures.rest
          ∙ ap (λ (b : BackupView). record b { store = c.join.new.self.store }) c.loop-store.invariant.rest;
    }

pub returns-clause-joined : goal.returns-clause-joined
returns-clause-joined c =
    subst (λ (stores : List StoreView). AreJoinedTo c.args.backup.now.store stores c.loop-store.backup.store)
    (take_all c.loop-store.store-index (map (λ s. s.1.now) c.args.stores.now) (rw length-map (omega arith))) c.loop-store.invariant.joined

pub returns-in-Err-clause-some : goal.returns-in-Err-clause-some
returns-in-Err-clause-some c = (
  c.loop-store.store-index,
  subst (λ (b : BackupView). AreJoinedTo c.args.backup.now.store (take c.loop-store.store-index (map (λ s. s.1.now) c.args.stores.now)) b.store)
      (sym c.in-Err.ensures.err) c.loop-store.invariant.joined,
)

pub returns-in-Err-clause-rest : goal.returns-in-Err-clause-rest
returns-in-Err-clause-rest c =
    c.join.ensures.rest ∙ ap (λ (b : BackupView). record b { store = c.join.new.self.store }) c.loop-store.invariant.rest
