-- What `==` says of edges.
use Rattle.std.proofs.Common.{◌≡◌, ◌==◌, ◌&&◌, ap}
use Rattle.std.specs.Bool.{Decides}
use Rattle.std.proofs.lemmas.Bool.Decides.{Decides-and, Decides-eqb, Decides-like}
use Rattle.edge_log.specs.declared.Edge.{Edge}

pub edge_decides : (a b : Edge) → Decides (a.hart == b.hart && a.at == b.at && a.other == b.other && a.after == b.after) (a ≡ b)
edge_decides a b =
    Decides-like _ (λ p i. record { hart = p.0.0.0 i; at = p.0.0.1 i; other = p.0.1 i; after = p.1 i })
    (λ e. (((ap (λ (k : Edge). k.hart) e, ap (λ (k : Edge). k.at) e), ap (λ (k : Edge). k.other) e), ap (λ (k : Edge). k.after) e))
    (Decides-and _ _ (Decides-and _ _ (Decides-and _ _ (Decides-eqb a.hart b.hart) (Decides-eqb a.at b.at)) (Decides-eqb a.other b.other))
    (Decides-eqb a.after b.after))
