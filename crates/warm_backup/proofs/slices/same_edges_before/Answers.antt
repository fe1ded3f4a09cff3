use Rattle.std.proofs.Common.{◌≡◌, take, nat_lt, sym, ap, ◌∙◌}
use Rattle.std.specs.List.{filter}
use Rattle.std.proofs.lemmas.Slice.Eq.{slice_eq-Decides}
use Rattle.edge_log.proofs.Equal.{edge_decides}
use Rattle.edge_log.specs.declared.Edge.{Edge}
use Rattle.edge_log.specs.EdgeLog.{row_of}
use Rattle.warm_backup.proofs.Firsts.{first_below}
use Rattle.warm_backup.proofs.slices.same_edges_before.Goals as goal

pub returns : goal.returns
returns c =
    let own = c.of_hart-own.result.now in
    let other = c.of_hart-other.result.now in
    let end = c.args.end in
    let i = c.edges_before-many.result in
    let j = c.edges_before.result in
    let mine : filter (λ (e : Edge). nat_lt e.at end) (row_of c.args.edges.now c.args.hart) ≡ take i own =
    ap (filter (λ (e : Edge). nat_lt e.at end)) (sym c.of_hart-own.ensures.value)
    ∙ first_below (λ (e : Edge). e.at) end own i c.edges_before-many.ensures.within c.edges_before-many.ensures.before c.edges_before-many.ensures.from in
    let theirs : filter (λ (e : Edge). nat_lt e.at end) (row_of c.args.others.now c.args.hart) ≡ take j other =
    ap (filter (λ (e : Edge). nat_lt e.at end)) (sym c.of_hart-other.ensures.value)
    ∙ first_below (λ (e : Edge). e.at) end other j c.edges_before.ensures.within c.edges_before.ensures.before c.edges_before.ensures.from in
    rw (mine, theirs) (slice_eq-Decides edge_decides (take i own) (take j other) c.same_edges.result c.same_edges.ensures)
