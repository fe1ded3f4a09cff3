use Rattle.std.proofs.Common.{◌≡◌, ◌∙◌, max, IsTrue, sym, ap, subst}
use Rattle.log_join.specs.Stores.{StoreView}
use Rattle.closed_cut.specs.Position.{IsPosition}
use Rattle.stations.specs.Stations.{StationView}
use Rattle.stations.proofs.Tops.{far_opening}
use Rattle.stations.proofs.station.KeeperStation.is_far.Goals as goal

pub returns-in-Opening : goal.returns-in-Opening
returns-in-Opening c =
    let p = c.position.result.now in
    let opening = c.in-Opening.opening in
    let store : c.deref.result.now ≡ c.args.self.now.store = c.deref.ensures ∙ ap (λ (s : StationView). s.store) c.self.view_is in
    let at : IsPosition c.args.self.now.store p = subst (λ (s : StoreView). IsPosition s p) store c.position.ensures.position in
    let last : c.max-last.result ≡ max c.args.self.now.seen p.top =
    c.max-last.ensures ∙ ap (λ (s : StationView). max s.seen p.top) c.self.view_is in
    far_opening c.args.self.now c.args.frame.now opening p (sym c.frame.ensures ∙ c.in-Opening.is) at (IsTrue c.is_out_of_reach.result)
    (rw (← last, ← c.term.ensures) c.is_out_of_reach.ensures)
