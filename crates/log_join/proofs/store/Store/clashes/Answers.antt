use Rattle.std.proofs.Common.{◌∙◌, ap, ℕ, ◌+◌}
use Rattle.std.specs.Cmp.{nat_cmp_total}
use Rattle.std.proofs.lemmas.Map.Lookups.{exact_unsigned}
use Rattle.log_join.specs.Stores.{clashes_of, IsOpeningOf, IsFragmentOf}
use Rattle.log_join.specs.machinery.Contents.{opening_part, fragment_part}
use Rattle.log_join.specs.machinery.Places.{Place, key_of}
use Rattle.log_join.proofs.Joins.{keys_total, keys_exact}
use Rattle.log_join.proofs.Stores.{places_total}
use Rattle.log_join.proofs.Listed.{clashes_shown}
use Rattle.log_join.proofs.store.Store.clashes.Goals as goal

pub returns : goal.returns
returns c =
    let guest = c.self.inside.guest in
    let s = c.self.inside.shelves in
    let openings = c.count_clashes.ensures.count
    ∙ clashes_shown nat_cmp_total exact_unsigned (λ (z : ℕ). z) nat_cmp_total opening_part (IsOpeningOf guest) s.openings c.count_clashes.ensures.ordered
    c.self.invariant.terms in
    let fragments = c.count_clashes-2.ensures.count
    ∙ clashes_shown keys_total keys_exact key_of places_total fragment_part (λ (p : Place). IsFragmentOf guest (key_of p)) s.fragments
    c.count_clashes-2.ensures.ordered c.self.invariant.places in
    (λ i. openings i + fragments i) ∙ ap clashes_of c.self.view_is
