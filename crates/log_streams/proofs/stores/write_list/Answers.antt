use Rattle.std.proofs.Common.{◌++◌, List, ℕ, refl, inl}
use Rattle.fragment_codec.specs.declared.types.Key.{Key}
use Rattle.log_join.specs.Stores.{StoreView, AreTerms, AreKeys}
use Rattle.log_streams.specs.Stores.{IsStoreText, openings_text, fragments_text}
use Rattle.log_streams.proofs.stores.write_list.Goals as goal

-- the text of all that is listed is the store's
text_of_list : (store : StoreView) (terms : List ℕ) (keys : List Key) → AreTerms store terms → AreKeys store keys →
    IsStoreText store (openings_text store terms ++ fragments_text store keys)
text_of_list store terms keys are_terms are_keys = record { terms = terms; are_terms = are_terms; keys = keys; are_keys = are_keys; is = refl }

pub returns-in-Ok-clause-written : goal.returns-in-Ok-clause-written
returns-in-Ok-clause-written g c =
    let store = c.args.store.now in
    let terms = c.deref.result.now in
    let keys = c.deref-2.result.now in
    inl (
      openings_text store terms ++ fragments_text store keys,
      text_of_list store terms keys (rw c.deref.ensures.value c.requires.are_terms) (rw c.deref-2.ensures.value c.requires.are_keys),
      tt,
      c.in-Ok.ensures,
    )

pub returns-in-Err-clause-written : goal.returns-in-Err-clause-written
returns-in-Err-clause-written g c =
    let store = c.args.store.now in
    let terms = c.deref.result.now in
    let keys = c.deref-2.result.now in
    inl (
      openings_text store terms ++ fragments_text store keys,
      text_of_list store terms keys (rw c.deref.ensures.value c.requires.are_terms) (rw c.deref-2.ensures.value c.requires.are_keys),
      refl,
      c.in-Err.ensures,
    )
