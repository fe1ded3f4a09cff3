-- What a keeper knows of terms.
use Rattle.std.proofs.Common.{◌≡◌, ◌≤◌, ◌<◌, ◌+◌, ◌∙◌, ℕ, max, sym, subst, arith}
use Rattle.fragment_codec.specs.Rules.{OpeningParts}
use Rattle.fragment_codec.specs.declared.frame.Frame.{Frame}
use Rattle.fragment_codec.specs.declared.frame.Frame.TheVariants.{Opening}
use Rattle.ft_types.specs.declared.position.Position.{Position}
use Rattle.log_join.specs.Stores.{StoreView}
use Rattle.closed_cut.specs.Position.{IsPosition, NoTop, Top}
use Rattle.stations.specs.Stations.{StationView, IsFar}
use Rattle.stations.specs.declared.reach.TheConstants.{TERM_REACH}

-- a store's chain has one last term
one_top : (store : StoreView) (p q : Position) → IsPosition store p → IsPosition store q → p.top ≡ q.top
one_top store p q (NoTop none a b c) (NoTop other d e f) = c ∙ sym f
one_top store p q (NoTop none a b c) (Top k) = absurd (none q.top k.top.sound)
one_top store p q (Top k) (NoTop none a b c) = absurd (none p.top k.top.sound)
one_top store p q (Top k) (Top l) =
    let at_most : p.top ≤ q.top = l.top.greatest p.top k.top.sound in
    let at_least : q.top ≤ p.top = k.top.greatest q.top l.top.sound in
    omega arith

-- so each of its positions tells whether an opening is far
pub far_opening : (s : StationView) (f : Frame) (o : OpeningParts) (p : Position) → f ≡ Opening o → IsPosition s.store p → (far : Type 0) →
    (far → max s.seen p.top + TERM_REACH < o.term) × (max s.seen p.top + TERM_REACH < o.term → far) → (far → IsFar s f) × (IsFar s f → far)
far_opening s f o p is at far exact = subst (λ (f : Frame). (far → IsFar s f) × (IsFar s f → far)) (sym is) (
  λ out. (p, at, exact.0 out),
  λ out. exact.1 (subst (λ (n : ℕ). max s.seen n + TERM_REACH < o.term) (one_top s.store out.0 p out.1 at) out.2),
)
