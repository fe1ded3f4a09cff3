use Rattle.std.proofs.Common.{◌≡◌, ◌∙◌, ap, sym, take, ◌+◌}
use Rattle.std.specs.Prelude.{◌||◌}
use Rattle.std.specs.BTreeMap.{get}
use Rattle.log_join.specs.machinery.Contents.{copied, is_among}
use Rattle.log_join.proofs.Maps.{none_of_part, among_more, copied_again}
use Rattle.std.specs.Ordering.{eq_by_cmp}
use Rattle.log_join.proofs.shelf.copy_at.Goals as goal

pub returns-in_err-copy_one-clause-others : goal.returns-in_err-copy_one-clause-others
returns-in_err-copy_one-clause-others g c = λ q h.
    let cmp = g.K.Ord.cmp in
    c.in_err-copy_one.ensures.err q
    ∙ c.loop-key.invariant q
    ∙ ap (λ b. copied b (get cmp c.args.shelf.now q) (get cmp c.args.theirs.now q)) (none_of_part (λ k. eq_by_cmp cmp k q) c.args.keys.now c.loop-key.key-index
    h)

pub loop-key-preserved : goal.loop-key-preserved
loop-key-preserved g c = λ q.
    let cmp = g.K.Ord.cmp in
    let i = c.loop-key.key-index in
    let ks = c.args.keys.now in
    let key = c.key-item.result in
    let here = get cmp c.args.shelf.now q in
    let there = get cmp c.args.theirs.now q in
    let more : is_among cmp (take (i + 1) ks) q ≡ (is_among cmp (take i ks) q || eq_by_cmp cmp key q) =
    among_more g.met.K.Ord.total ks i key q c.loop-key-test.true ∙ ap (λ k. is_among cmp (take i ks) q || eq_by_cmp cmp k q) (sym c.key-item.is) in
    c.in_ok-copy_one.ensures.ok q
    ∙ ap (λ x. copied (eq_by_cmp cmp key q) x there) (c.loop-key.invariant q)
    ∙ copied_again (is_among cmp (take i ks) q) (eq_by_cmp cmp key q) here there
    ∙ ap (λ b. copied b here there) (sym more)
