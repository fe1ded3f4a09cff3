use Rattle.std.proofs.Common.{◌≡◌, ◌∙◌, sym, ap, subst, refl, cond}
use Rattle.std.specs.Prelude.{None, Some, OnOk, OnErr}
use Rattle.std.specs.Ordering.{eq_by_cmp}
use Rattle.std.specs.BTreeMap.{get}
use Rattle.fragment_codec.specs.declared.frame.Frame.TheVariants.{Log}
use Rattle.log_join.specs.declared.answers.Put.TheVariants.{New}
use Rattle.log_join.specs.Answers.{answer_to}
use Rattle.log_join.specs.Stores.{StoreView, IsJoin, alone}
use Rattle.log_join.specs.machinery.Contents.{view_of, taken}
use Rattle.log_join.specs.machinery.Places.{Place, place_of, place_cmp}
use Rattle.log_join.proofs.First.{own_guest, none_there, first_joined, first_kept, first_fits}
use Rattle.log_join.proofs.store.Store.put_new.Goals as goal

-- the fragment is new to the store's parts
pub put_first-requires : goal.put_first-requires
put_first-requires c =
    let s = c.self.inside.shelves in
    let new = subst (λ (v : StoreView). answer_to v (Log c.args.fragment) ≡ New) (sym c.self.view_is) c.requires.new in
    record {
      new =
          subst (λ (p : Place). get place_cmp s.fragments p ≡ None) (sym (c.from-place.ensures ∙ ap place_of c.key.ensures))
          (none_there c.self.inside.guest s c.args.fragment c.self.invariant new);
    }

-- what `put_first` did, at the fragment's own key
takes : (c : goal.After-put_first) → OnOk c.put_first.result ((q : Place) →
    get place_cmp c.put_first.new.shelf q ≡ cond (eq_by_cmp place_cmp (place_of c.args.fragment.key) q) (Some (taken None (Log c.args.fragment)))
    (get place_cmp c.self.inside.shelves.fragments q))
takes c =
    subst (λ (p : Place). OnOk c.put_first.result ((q : Place) →
    get place_cmp c.put_first.new.shelf q ≡ cond (eq_by_cmp place_cmp p q) (Some (taken None (Log c.args.fragment)))
    (get place_cmp c.self.inside.shelves.fragments q))) (c.from-place.ensures ∙ ap place_of c.key.ensures) c.put_first.ensures.taken

-- the fragment was new to the store's parts
was_new : (c : goal.After-put_first) → answer_to (view_of c.self.inside.guest c.self.inside.shelves) (Log c.args.fragment) ≡ New
was_new c = subst (λ (v : StoreView). answer_to v (Log c.args.fragment) ≡ New) (sym c.self.view_is) c.requires.new

pub invariant_of-self : goal.invariant_of-self
invariant_of-self c =
    let own = own_guest c.self.inside.guest c.self.inside.shelves c.args.fragment c.self.invariant (was_new c) in
    first_fits c.self.inside.guest c.self.inside.shelves c.args.fragment c.self.invariant (was_new c) c.put_first.new.shelf
    (record { rules = c.records-rules.ensures.rules; same_guest = own; same_key = refl }) c.put_first.result (takes c) c.put_first.ensures.err

pub returns-clause-joined : goal.returns-clause-joined
returns-clause-joined c =
    let s = c.self.inside.shelves in
    let n = c.put_first.new.shelf in
    subst (λ (v : StoreView). OnOk c.put_first.result (IsJoin v (alone (Log c.args.fragment)) (view_of c.self.inside.guest (record s { fragments = n }))))
    c.self.view_is (first_joined c.self.inside.guest s c.args.fragment c.self.invariant (was_new c) n c.put_first.result (takes c))

pub returns-clause-err : goal.returns-clause-err
returns-clause-err c =
    let s = c.self.inside.shelves in
    let n = c.put_first.new.shelf in
    subst (λ (v : StoreView). OnErr c.put_first.result (view_of c.self.inside.guest (record s { fragments = n }) ≡ v)) c.self.view_is
    (first_kept c.self.inside.guest s c.args.fragment c.self.invariant (was_new c) n c.put_first.result c.put_first.ensures.err)
