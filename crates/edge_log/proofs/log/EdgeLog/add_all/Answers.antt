use Rattle.std.proofs.Common.{◌++◌, List, map, set, get_or, OnOk, All, Contains, subst, sym, ap, ◌∙◌}
use Rattle.std.specs.List.{flat_map}
use Rattle.std.proofs.lemmas.Result.{on_ok_weaker, on_err_weaker}
use Rattle.ft_types.specs.Counts.{count_at}
use Rattle.interleaving.specs.Log.{Edge as edge_of_theory}
use Rattle.interleaving.specs.Cuts.{IsEnough}
use Rattle.interleaving.proofs.Cuts.{same_order}
use Rattle.edge_log.specs.declared.Edge.{Edge}
use Rattle.edge_log.specs.Rows.{TakesAll}
use Rattle.edge_log.specs.EdgeLog.{Edges, row_of, edges_of, edge_as, start_of, IsOfHart, AreAdded}
use Rattle.edge_log.proofs.Settled.{IsSettled, all_own, other_rows, same_left, row_settled, settled_among, log_kept}
use Rattle.edge_log.proofs.log.EdgeLog.add_all.Goals as goal

-- the rows that are left
abbrev new_rows : goal.After-add_all → List (List Edge)
new_rows c = map (λ r. r.edges) (set c.self.inside.rows c.index.result c.add_all.new.self)

own : (c : goal.After-add_all) → All (IsOfHart c.self.inside.start c.index.result) c.args.edges.now
own c =
    rw c.index.ensures.value
    (subst (λ (v : Edges). All (IsOfHart v.start c.args.hart) c.args.edges.now) (sym c.self.view_is)
    (all_own c.args.self.now c.args.hart c.args.edges.now c.requires.own c.requires.each))

all_settled : (c : goal.After-add_all) →
    TakesAll c.self.inside.start (get_or c.self.inside.rows c.index.result c.index-self-index.result).edges c.args.edges.now c.add_all.new.self.edges →
    IsSettled c.self.inside.start (map (λ r. r.edges) c.self.inside.rows) c.args.edges.now (new_rows c)
all_settled c takes =
    row_settled c.self.inside.start c.self.inside.rows c.self.invariant c.index.result c.index.ensures.below c.index-self-index.result c.add_all.new.self
    c.args.edges.now (own c) takes

all_enough : (c : goal.After-add_all) →
    OnOk c.add_all.result
    ((all : List edge_of_theory) → IsEnough (edges_of c.args.self.now) all (start_of c.args.self.now) →
    IsEnough (flat_map (map edge_as) (new_rows c)) (all ++ map edge_as c.args.edges.now) (count_at c.self.inside.start))
all_enough c =
    on_ok_weaker c.add_all.result
    (λ takes.
    subst
    (λ (v : Edges). (all : List edge_of_theory) → IsEnough (edges_of v) all (start_of v) →
    IsEnough (flat_map (map edge_as) (new_rows c)) (all ++ map edge_as c.args.edges.now) (count_at c.self.inside.start))
    c.self.view_is (all_settled c takes).enough)
    c.add_all.ensures.takes

pub invariant_of-self : goal.invariant_of-self
invariant_of-self c =
    log_kept c.self.inside.start c.self.inside.rows c.self.invariant c.index.result c.index.ensures.below c.index-self-index.result c.add_all.new.self
    c.add_all.result c.args.edges.now (own c) c.add_all.ensures.takes c.add_all.ensures.err

pub returns-clause-err : goal.returns-clause-err
returns-clause-err c =
    on_err_weaker c.add_all.result
    (λ kept.
    ap (λ (rows : List (List Edge)). let v : Edges = record { start = c.self.inside.start; rows = rows } in v)
    (same_left c.self.inside.start c.self.inside.rows c.self.invariant c.index.result c.index.ensures.below c.index-self-index.result c.add_all.new.self kept) ∙
    c.self.view_is)
    c.add_all.ensures.err

pub returns-clause-others_kept : goal.returns-clause-others_kept
returns-clause-others_kept c other ne =
    other_rows c.self.inside.start c.self.inside.rows c.self.invariant c.index.result c.index.ensures.below c.index-self-index.result c.add_all.new.self
    other (rw c.index.ensures.value ne) ∙
    ap (λ (v : Edges). row_of v other) c.self.view_is

pub returns-clause-added : goal.returns-clause-added
returns-clause-added c =
    on_ok_weaker c.add_all.result
    (λ takes.
    subst (λ (v : Edges). AreAdded v c.args.edges.now (let w : Edges = record { start = c.self.inside.start; rows = new_rows c } in w)) c.self.view_is
    (all_settled c takes).added)
    c.add_all.ensures.takes

pub returns-clause-among : goal.returns-clause-among
returns-clause-among c =
    on_ok_weaker c.add_all.result
    (λ takes.
    subst
    (λ (v : Edges). (e : edge_of_theory) → Contains (flat_map (map edge_as) (new_rows c)) e → Contains (edges_of v ++ map edge_as c.args.edges.now) e)
    c.self.view_is
    (settled_among c.self.inside.start (map (λ r. r.edges) c.self.inside.rows) (new_rows c) c.args.edges.now c.self.invariant (all_settled c takes)))
    c.add_all.ensures.takes

pub returns-clause-enough : goal.returns-clause-enough
returns-clause-enough c = all_enough c

pub returns-clause-same_order : goal.returns-clause-same_order
returns-clause-same_order c = on_ok_weaker c.add_all.result (λ enough all was. same_order _ _ _ (enough all was)) (all_enough c)

pub returns-clause-rules : goal.returns-clause-rules
returns-clause-rules c =
    log_kept c.self.inside.start c.self.inside.rows c.self.invariant c.index.result c.index.ensures.below c.index-self-index.result c.add_all.new.self
    c.add_all.result c.args.edges.now (own c) c.add_all.ensures.takes c.add_all.ensures.err
