use Rattle.std.proofs.Common.{◌≡◌, ◌↔◌, ◌<◌, ◌≤◌, List, [], ◌∷◌, ◌++◌, map, set, get_or, length, All, Ok, IfOk, subst, sym, ap, ◌∙◌, inl}
use Rattle.std.specs.List.{flat_map}
use Rattle.ft_types.specs.Counts.{count_at}
use Rattle.interleaving.specs.Log.{Edge as edge_of_theory}
use Rattle.interleaving.specs.Cuts.{IsImplied, IsEnough, IsSameOrder}
use Rattle.interleaving.proofs.Cuts.{same_order}
use Rattle.edge_log.specs.declared.Added.TheVariants.{Implied}
use Rattle.edge_log.specs.Rows.{IsPut}
use Rattle.edge_log.specs.EdgeLog.{Edges, row_of, edges_of, edge_as, start_of}
use Rattle.edge_log.proofs.Logs.{enough_implied, latest_is, put_is, old_is, others_are, all_stay, still_log, implied_is, enough_is, order_is}
use Rattle.edge_log.proofs.log.EdgeLog.add.Goals as goal

pub returns-then-edge-get-clause-enough : goal.returns-then-edge-get-clause-enough
returns-then-edge-get-clause-enough c =
    subst
    (λ (v : Edges). (all : List edge_of_theory) → IsEnough (edges_of v) all (start_of v) → IsEnough (edges_of v) (all ++ edge_as c.args.edge ∷ []) (start_of v))
    c.self.view_is
    (λ all enough.
    enough_implied c.self.inside.start (map (λ r. r.edges) c.self.inside.rows) c.self.invariant c.args.edge all
    (inl (rw c.get.ensures.value at c.if-edge-get.true)) enough)

pub returns-then-edge-get-clause-same_order : goal.returns-then-edge-get-clause-same_order
returns-then-edge-get-clause-same_order c =
    subst
    (λ (v : Edges). (all : List edge_of_theory) → IsEnough (edges_of v) all (start_of v) → IsSameOrder (edges_of v) (all ++ edge_as c.args.edge ∷ [])
    (start_of v))
    c.self.view_is
    (λ all enough.
    same_order _ _ _
    (enough_implied c.self.inside.start (map (λ r. r.edges) c.self.inside.rows) c.self.invariant c.args.edge all
    (inl (rw c.get.ensures.value at c.if-edge-get.true)) enough))

pub add-requires-clause-last : goal.add-requires-clause-last
add-requires-clause-last c =
    subst (λ l. All (λ y. y.at ≤ c.args.edge.at) l)
    (old_is c.self.inside.start c.self.inside.rows c.self.invariant c.args.edge c.index.result c.index.ensures.value c.index.ensures.below
    c.index-self-index.result c.index-self-index.result)
    (subst (λ (v : Edges). All (λ y. y.at ≤ c.args.edge.at) (row_of v c.args.edge.hart)) (sym c.self.view_is) c.requires.last)

pub invariant_of-self : goal.invariant_of-self
invariant_of-self c =
    still_log c.self.inside.start c.self.inside.rows c.self.invariant c.args.edge c.index.result c.index.ensures.value c.index.ensures.below
    c.index-self-index.result c.add.new.self c.add.result c.add.ensures.implied c.add.ensures.put c.add.ensures.kept
    (subst (λ (v : Edges). c.args.edge.other < length v.start) (sym c.self.view_is) c.requires.other)
    (subst (λ (v : Edges). start_of v c.args.edge.hart ≤ c.args.edge.at) (sym c.self.view_is) c.requires.from_start)
    (rw c.get.ensures.value at c.if-edge-get.false)

pub returns-clause-implied : goal.returns-clause-implied
returns-clause-implied c =
    subst (λ (v : Edges). (c.add.result ≡ Ok Implied) ↔ IsImplied (edges_of v) (start_of v) (edge_as c.args.edge)) c.self.view_is
    (implied_is c.self.inside.start c.self.inside.rows c.self.invariant c.args.edge c.index.result c.index.ensures.value c.index.ensures.below
    c.index-self-index.result c.add.new.self c.add.result c.add.ensures.implied c.add.ensures.put c.add.ensures.kept
    (subst (λ (v : Edges). c.args.edge.other < length v.start) (sym c.self.view_is) c.requires.other)
    (subst (λ (v : Edges). start_of v c.args.edge.hart ≤ c.args.edge.at) (sym c.self.view_is) c.requires.from_start)
    (rw c.get.ensures.value at c.if-edge-get.false))

pub returns-clause-put : goal.returns-clause-put
returns-clause-put c is =
    subst
    (λ (v : Edges).
    IsPut (row_of v c.args.edge.hart) c.args.edge (get_or (map (λ r. r.edges) (set c.self.inside.rows c.index.result c.add.new.self)) c.args.edge.hart []))
    c.self.view_is
    (put_is c.self.inside.start c.self.inside.rows c.self.invariant c.args.edge c.index.result c.index.ensures.value c.index.ensures.below
    c.index-self-index.result c.add.new.self c.add.result c.add.ensures.implied c.add.ensures.put c.add.ensures.kept
    (subst (λ (v : Edges). c.args.edge.other < length v.start) (sym c.self.view_is) c.requires.other)
    (subst (λ (v : Edges). start_of v c.args.edge.hart ≤ c.args.edge.at) (sym c.self.view_is) c.requires.from_start)
    (rw c.get.ensures.value at c.if-edge-get.false) is)

pub returns-clause-others_kept : goal.returns-clause-others_kept
returns-clause-others_kept c h ne =
    others_are c.self.inside.start c.self.inside.rows c.self.invariant c.args.edge c.index.result c.index.ensures.value c.index.ensures.below
    c.index-self-index.result
    c.add.new.self h ne ∙
    ap (λ (v : Edges). row_of v h) c.self.view_is

pub returns-clause-kept : goal.returns-clause-kept
returns-clause-kept c not =
    ap (λ (rows : List (List _)). let v : Edges = record { start = c.self.inside.start; rows = rows } in v)
    (all_stay c.self.inside.start c.self.inside.rows c.self.invariant c.args.edge c.index.result c.index.ensures.value c.index.ensures.below
    c.index-self-index.result c.add.new.self (c.add.ensures.kept not)) ∙
    c.self.view_is

pub returns-clause-latest : goal.returns-clause-latest
returns-clause-latest c =
    latest_is c.self.inside.start c.self.inside.rows c.self.invariant c.args.edge c.index.result c.index.ensures.value c.index.ensures.below
    c.index-self-index.result c.add.new.self c.add.result c.add.ensures.implied c.add.ensures.put c.add.ensures.kept
    (subst (λ (v : Edges). c.args.edge.other < length v.start) (sym c.self.view_is) c.requires.other)
    (subst (λ (v : Edges). start_of v c.args.edge.hart ≤ c.args.edge.at) (sym c.self.view_is) c.requires.from_start)
    (rw c.get.ensures.value at c.if-edge-get.false)
    (subst (λ (v : Edges). All (λ y. y.at ≤ c.args.edge.at) (row_of v c.args.edge.hart)) (sym c.self.view_is) c.requires.last)

pub returns-clause-enough : goal.returns-clause-enough
returns-clause-enough c =
    subst
    (λ (v : Edges).
    IfOk c.add.result
    (λ _. (all : List edge_of_theory) → IsEnough (edges_of v) all (start_of v) →
    IsEnough (flat_map (map edge_as) (map (λ r. r.edges) (set c.self.inside.rows c.index.result c.add.new.self))) (all ++ edge_as c.args.edge ∷ [])
    (count_at c.self.inside.start)))
    c.self.view_is
    (enough_is c.self.inside.start c.self.inside.rows c.self.invariant c.args.edge c.index.result c.index.ensures.value c.index.ensures.below
    c.index-self-index.result c.add.new.self c.add.result c.add.ensures.implied c.add.ensures.put c.add.ensures.kept
    (subst (λ (v : Edges). c.args.edge.other < length v.start) (sym c.self.view_is) c.requires.other)
    (subst (λ (v : Edges). start_of v c.args.edge.hart ≤ c.args.edge.at) (sym c.self.view_is) c.requires.from_start)
    (rw c.get.ensures.value at c.if-edge-get.false))

pub returns-clause-same_order : goal.returns-clause-same_order
returns-clause-same_order c =
    subst
    (λ (v : Edges).
    IfOk c.add.result
    (λ _. (all : List edge_of_theory) → IsEnough (edges_of v) all (start_of v) →
    IsSameOrder (flat_map (map edge_as) (map (λ r. r.edges) (set c.self.inside.rows c.index.result c.add.new.self))) (all ++ edge_as c.args.edge ∷ [])
    (count_at c.self.inside.start)))
    c.self.view_is
    (order_is c.self.inside.start c.self.inside.rows c.self.invariant c.args.edge c.index.result c.index.ensures.value c.index.ensures.below
    c.index-self-index.result c.add.new.self c.add.result c.add.ensures.implied c.add.ensures.put c.add.ensures.kept
    (subst (λ (v : Edges). c.args.edge.other < length v.start) (sym c.self.view_is) c.requires.other)
    (subst (λ (v : Edges). start_of v c.args.edge.hart ≤ c.args.edge.at) (sym c.self.view_is) c.requires.from_start)
    (rw c.get.ensures.value at c.if-edge-get.false))
