-- Walks over a hart's pieces.
use Rattle.std.proofs.Common.{◌≡◌, ℕ, ◌+◌, ◌<◌, ◌^◌, List, ◌++◌, refl, sym, ap, subst, ◌∙◌, arith, add-one, append_assoc}
use Rattle.std.specs.List.{filter_map}
use Rattle.edge_log.specs.declared.Edge.{Edge}
use Rattle.fragment_codec.specs.Rules.{FragmentParts}
use Rattle.log_join.specs.Cells.{Cell, One}
use Rattle.log_join.specs.Stores.{StoreView, IsStore}
use Rattle.fragment_codec.specs.Facts.{edge_in}
use Rattle.closed_cut.specs.Position.{pieces_of, Goes}
use Rattle.closed_cut.specs.machinery.Walks.{cell_edges, hart_edges}

pub one_same : {X : Type 0} {x y : X} {cell : Cell X} → cell ≡ One x → cell ≡ One y → x ≡ y
one_same a b = cc

pub goes_on : (pieces : ℕ → Cell FragmentParts) (start place end : ℕ) (f : FragmentParts) → Goes pieces start place end → pieces place ≡ One f →
    f.from ≡ end → Goes pieces start (place + 1) f.to
goes_on pieces start place end f goes one same = rw add-one (f, subst (Goes pieces start place) (sym same) goes, one, refl)

pub edges_on : (pieces : ℕ → Cell FragmentParts) (place : ℕ) (f : FragmentParts) → pieces place ≡ One f →
    hart_edges pieces (place + 1) ≡ hart_edges pieces place ++ filter_map edge_in f.records
edges_on pieces place f one = ap (hart_edges pieces) (add-one place) ∙ ap (λ c. hart_edges pieces place ++ cell_edges c) one

-- a store has no piece at so high a place
pub no_place : (store : StoreView) (term hart place : ℕ) (f : FragmentParts) → IsStore store → pieces_of store term hart place ≡ One f → place < 2 ^ 32
no_place store term hart place f rules one =
    let fits = rules.fragments (record { term = term; hart = hart; place = place }) f one in
    let key : f.key.place < 2 ^ 32 = fits.rules.key.place in
    let same : f.key.place ≡ place = ap (λ k. k.place) fits.same_key in
    omega arith

pub gathered_on : (pieces : ℕ → Cell FragmentParts) (place : ℕ) (f : FragmentParts) (old edges new : List Edge) → pieces place ≡ One f →
    edges ≡ old ++ hart_edges pieces place → new ≡ edges ++ filter_map edge_in f.records → new ≡ old ++ hart_edges pieces (place + 1)
gathered_on pieces place f old edges new one so_far added =
    added ∙
    (ap (λ l. l ++ filter_map edge_in f.records) so_far ∙
    (append_assoc old (hart_edges pieces place) (filter_map edge_in f.records) ∙ ap (λ l. old ++ l) (sym (edges_on pieces place f one))))
