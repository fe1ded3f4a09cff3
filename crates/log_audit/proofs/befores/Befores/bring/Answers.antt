use Rattle.std.proofs.Common.{◌≡◌, ◌≤◌, ◌++◌, ◌∷◌, [], refl, ap, sym, subst, ◌∙◌, arith, AllPairs, ℕ, List, length, slice_set, slice_index_or, true≢false, ◌==◌, rules}
use Rattle.edge_log.specs.declared.Edge.{Edge}
use Rattle.log_audit.specs.declared.befores.Before.{Before}
use Rattle.log_audit.specs.machinery.Befores.{row_of, IsLatest, AreBrought, NoneYet, Next}
use Rattle.log_audit.proofs.Shown.{row_read, row_set}
use Rattle.log_audit.proofs.Lists.{take_more, get_at, take_whole}
use Rattle.log_audit.proofs.befores.Befores.bring.Goals as goal

none_there : {A : Type 0} (xs : List A) → length xs ≡ 0 → xs ≡ []
none_there [] e = refl
none_there (x ∷ xs) e = absurd (omega (arith, e))

pub latest-steps-requires : goal.latest-steps-requires
latest-steps-requires c =
    let shown : c.deref.result.now ≡ row_of c.args.self.now c.args.hart =
    row_read c.self.inside.rows c.args.self.now c.index.result c.args.hart c.index-self-index.result c.deref.result.now c.deref.ensures.value
    c.self.view_is c.index-self-index.is (search rules) c.index.ensures.value in
    subst (AllPairs (λ (a : Before) (b : Before). a.since ≤ b.since)) (sym shown) (c.requires c.args.hart)

pub returns-then-is_empty : goal.returns-then-is_empty
returns-then-is_empty c =
    let shown : c.deref.result.now ≡ row_of c.args.self.now c.args.hart =
    row_read c.self.inside.rows c.args.self.now c.index.result c.args.hart c.index-self-index.result c.deref.result.now c.deref.ensures.value
    c.self.view_is c.index-self-index.is (search rules) c.index.ensures.value in
    let none : c.args.edges.now ≡ [] = none_there c.args.edges.now (search rules) in
    record {
      own = c.latest-steps.result;
      latest = subst (λ (r : List Before). IsLatest r c.args.count c.latest-steps.result) shown c.latest-steps.ensures;
      brought = subst (λ (e : List Edge). AreBrought c.args.self.now c.latest-steps.result e c.latest-steps.result) (sym none) NoneYet;
      none = λ e. refl;
      some = λ no. absurd (no none);
    }

pub loop-edge-init : goal.loop-edge-init
loop-edge-init c = NoneYet

pub loop-edge-preserved : goal.loop-edge-preserved
loop-edge-preserved c =
    subst (λ (e : List Edge). AreBrought c.args.self.now c.latest-steps.result e c.bring_one.new.steps)
    (sym (take_more c.args.edges.now c.loop-edge.edge-index c.edge-item.result
    (get_at c.args.edges.now c.loop-edge.edge-index c.edge-item.result c.edge-item.is (search rules))))
    (Next c.edge-item.result c.bring_one.new.steps c.loop-edge.invariant c.bring_one.ensures)

pub returns : goal.returns
returns c =
    let shown : c.deref.result.now ≡ row_of c.args.self.now c.args.hart =
    row_read c.self.inside.rows c.args.self.now c.index.result c.args.hart c.index-self-index.result c.deref.result.now c.deref.ensures.value
    c.self.view_is c.index-self-index.is (search rules) c.index.ensures.value in
    let some : c.args.edges.now ≡ [] → ⊥ =
    λ e. true≢false (sym (ap (λ (l : List Edge). length l == 0) e) ∙ sym c.is_empty.ensures ∙ c.if-is_empty.false) in
    let entry : Before = record { since = c.args.count; steps = c.loop-edge.steps } in
    let pushed : c.push.new.self.items ≡ (slice_index_or c.self.inside.rows c.index-2.result c.index-self-index-2.result).items ++ entry ∷ [] =
    c.in_ok-push.ensures.items
    ∙ ap (λ (s : List ℕ). (slice_index_or c.self.inside.rows c.index-2.result c.index-self-index-2.result).items ++ record { since = c.args.count; steps = s } ∷ [])
    c.in_ok-kept.ensures in
    let here : (slice_index_or c.self.inside.rows c.index-2.result c.index-self-index-2.result).items ≡ row_of c.args.self.now c.args.hart =
    row_read c.self.inside.rows c.args.self.now c.index-2.result c.args.hart c.index-self-index-2.result
    (slice_index_or c.self.inside.rows c.index-2.result c.index-self-index-2.result).items refl c.self.view_is c.index-self-index-2.is (search rules)
    c.index-2.ensures.value in
    let row : (slice_index_or c.self.inside.rows c.index-2.result c.index-self-index-2.result).items ++ entry ∷ [] ≡
    row_of c.args.self.now c.args.hart ++ entry ∷ [] = ap (λ (r : List Before). r ++ entry ∷ []) here in
    record {
      own = c.latest-steps.result;
      latest = subst (λ (r : List Before). IsLatest r c.args.count c.latest-steps.result) shown c.latest-steps.ensures;
      brought =
          subst (λ (e : List Edge). AreBrought c.args.self.now c.latest-steps.result e c.loop-edge.steps)
          (take_whole c.args.edges.now c.loop-edge.edge-index (search rules)) c.loop-edge.invariant;
      none = λ e. absurd (some e);
      some = λ no.
          row_set c.self.inside.rows c.args.self.now c.index-2.result _ (row_of c.args.self.now c.args.hart ++ entry ∷ []) c.self.view_is (pushed ∙ row)
          ∙ ap (λ h. slice_set c.args.self.now h (row_of c.args.self.now c.args.hart ++ entry ∷ [])) c.index-2.ensures.value;
    }
