use Rattle.std.proofs.Common.{◌≡◌, sym, subst, List}
use Rattle.std.specs.BTreeMap.{get}
use Rattle.std.proofs.lemmas.Result.{IfOk-weaker}
use Rattle.fragment_codec.specs.declared.types.Key.{Key}
use Rattle.log_join.specs.Stores.{StoreView, key_cmp, AreKeys, IsFragmentOf}
use Rattle.log_join.specs.machinery.Contents.{fragment_part, listed, view_of}
use Rattle.log_join.specs.machinery.Places.{key_of, place_of, place_cmp}
use Rattle.log_join.proofs.Joins.{keys_total, keys_exact}
use Rattle.log_join.proofs.Shown.{fits_weaker}
use Rattle.log_join.proofs.Stores.{places_total}
use Rattle.log_join.proofs.Listed.{listed_rising, listed_exact}
use Rattle.log_join.proofs.store.Store.keys.Goals as goal

pub keys-requires : goal.keys-requires
keys-requires c = λ p. fits_weaker fragment_part (IsFragmentOf c.self.inside.guest (key_of p)) (λ f. f.key ≡ key_of p) (λ f h. h.same_key)
    (get place_cmp c.self.inside.shelves.fragments p) (c.self.invariant.places p)

pub returns : goal.returns
returns c =
    let s = c.self.inside.shelves in
    let guest = c.self.inside.guest in
    let are : AreKeys (view_of guest s) (listed key_of s.fragments.entries) = record {
      rising = listed_rising key_cmp key_of s.fragments.entries c.keys.ensures.ordered;
      exact = λ k. listed_exact keys_total key_of places_total fragment_part (IsFragmentOf guest k) keys_exact s.fragments (place_of k) c.keys.ensures.ordered
          (c.self.invariant.places (place_of k));
    } in
    IfOk-weaker c.keys.result _ _ (λ ks e. subst (λ (xs : List Key). AreKeys c.args.self.now xs) (sym e)
    (subst (λ (v : StoreView). AreKeys v (listed key_of s.fragments.entries)) c.self.view_is are)) c.keys.ensures.listed
