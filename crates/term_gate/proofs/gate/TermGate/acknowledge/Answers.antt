use Rattle.std.proofs.Common.{◌≡◌, ◌∙◌, ◌<◌, ℕ, List, [], true, false, length, slice_index_or, ap, sym, subst, arith}
use Rattle.std.proofs.lemmas.List.{get_or_read}
use Rattle.ft_types.specs.Counts.{IsWithin, count_at}
use Rattle.term_gate.specs.TermGates.{TermGateView, acked_at}
use Rattle.term_gate.proofs.Tables.{above_somewhere}
use Rattle.term_gate.proofs.gate.TermGate.acknowledge.Goals as goal

pub returns-then-not-within-clause-lower : goal.returns-then-not-within-clause-lower
returns-then-not-within-clause-lower c = λ _.
    let rows = c.self.inside.acked.items in
    let counts : List ℕ = c.args.position.now.counts in
    let wide : c.self.inside.harts ≡ c.args.self.now.harts = ap (λ (v : TermGateView). v.harts) c.self.view_is in
    let many : length rows ≡ c.args.self.now.gate.keepers =
    c.self.invariant.keepers ∙ ap (λ (v : TermGateView). v.gate.keepers) c.self.view_is in
    let there : c.index-row.result < length rows = omega (arith, c.requires.keeper, c.index-row.ensures.value) in
    let row : c.index.result.now ≡ slice_index_or rows c.index-row.result [] = get_or_read rows c.index-row.result c.index.result.now there c.index.ensures [] in
    let long : length c.index.result.now ≡ length counts = ap length row ∙ c.self.invariant.wide c.index-row.result there ∙ wide ∙ sym c.requires.harts in
    let fails : IsWithin c.index.result.now counts → ⊥ = λ within.
    (let is : c.within.result ≡ true = c.within.ensures.1 within in let e : true ≡ false = sym is ∙ c.if-not-within.true in absurd cc) in
    let at = above_somewhere c.index.result.now counts long fails in
    let was : count_at c.index.result.now at.0 ≡ acked_at c.args.self.now c.args.keeper at.0 =
    ap (λ (r : List ℕ). count_at r at.0) row
    ∙ ap (λ (k : ℕ). count_at (slice_index_or rows k []) at.0) c.index-row.ensures.value
    ∙ ap (λ (v : TermGateView). acked_at v c.args.keeper at.0) c.self.view_is in
    (at.0, omega (arith, at.1, long, c.requires.harts), subst (λ (n : ℕ). count_at counts at.0 < n) was at.2)
