use Rattle.std.proofs.Common.{◌≡◌, ◌∙◌, ap, sym, subst, ◌&&◌, not, List, [], ◌∷◌}
use Rattle.std.specs.Prelude.{◌||◌, is_some}
use Rattle.std.specs.BTreeMap.{get, keys}
use Rattle.std.specs.Ordering.{eq_by_cmp}
use Rattle.std.proofs.lemmas.List.Folds.{list_any-append}
use Rattle.log_join.specs.machinery.Contents.{is_among}
use Rattle.log_join.proofs.Maps.{or_false, passed, picked, tied_get, among_keys}
use Rattle.log_join.proofs.shelf.missing_keys.Goals as goal

pub loop-key-preserved : goal.loop-key-preserved
loop-key-preserved g c = λ q.
    let cmp = g.K.Ord.cmp in
    let k = c.in-Some.key.now in
    let mine = c.args.mine.now in
    let m = is_among cmp c.loop-key.missing.items q in
    let s = is_some (get cmp mine q) in
    passed m (eq_by_cmp cmp k q) (is_among cmp c.next.new.self q) s (λ t. ap is_some (tied_get g.met.K.Ord.total mine k q t) ∙
    sym c.if-not-contains_key.ensures)
    ∙ subst (λ (it : List g.row.K.Denot). (m || (is_among cmp it q && not s)) ≡ (is_among cmp (keys c.args.theirs.now) q && not s)) c.in-Some.ensures.steps
    (c.loop-key.invariant q)

pub loop-key-preserved-in-Continue-1 : goal.loop-key-preserved-in-Continue-1
loop-key-preserved-in-Continue-1 g c = λ q.
    let cmp = g.K.Ord.cmp in
    let k = c.in-Some.key.now in
    let mine = c.args.mine.now in
    let m = is_among cmp c.loop-key.missing.items q in
    let s = is_some (get cmp mine q) in
    let left = is_among cmp c.next.new.self q && not s in
    ap (λ items. is_among cmp items q || left) c.in_ok-push.ensures.items
    ∙ ap (λ b. b || left) (list_any-append (λ z. eq_by_cmp cmp z q) c.loop-key.missing.items (k ∷ []))
    ∙ picked m (eq_by_cmp cmp k q) (is_among cmp c.next.new.self q) s (λ t. ap is_some (tied_get g.met.K.Ord.total mine k q t) ∙
    sym c.if-not-contains_key.ensures)
    ∙ subst (λ (it : List g.row.K.Denot). (m || (is_among cmp it q && not s)) ≡ (is_among cmp (keys c.args.theirs.now) q && not s)) c.in-Some.ensures.steps
    (c.loop-key.invariant q)

pub returns : goal.returns
returns g c = λ q.
    let cmp = g.K.Ord.cmp in
    let m = is_among cmp c.loop-key.missing.items q in
    let s = is_some (get cmp c.args.mine.now q) in
    sym (or_false m)
    ∙ subst (λ (it : List g.row.K.Denot). (m || (is_among cmp it q && not s)) ≡ (is_among cmp (keys c.args.theirs.now) q && not s)) c.in-None.ensures.steps.0
    (c.loop-key.invariant q)
    ∙ ap (λ b. b && not s) (among_keys g.met.K.Ord.total c.args.theirs.now.entries q)
