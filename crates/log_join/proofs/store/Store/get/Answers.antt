use Rattle.std.proofs.Common.{◌∙◌, sym, ap, subst}
use Rattle.std.specs.Prelude.{Option}
use Rattle.std.specs.BTreeMap.{get}
use Rattle.fragment_codec.specs.Rules.{FragmentParts}
use Rattle.frame_content.specs.declared.content.Content.{Content}
use Rattle.log_join.specs.Cells.{Cell}
use Rattle.log_join.specs.Stores.{IsStore, IsFragmentOf, fragment_at}
use Rattle.log_join.specs.Answers.{TellsFragment}
use Rattle.log_join.specs.machinery.Contents.{TellsContent, fragment_part}
use Rattle.log_join.specs.machinery.Places.{key_of, place_of, place_cmp}
use Rattle.log_join.proofs.Joins.{keys_total}
use Rattle.log_join.proofs.Shown.{cell_shown}
use Rattle.log_join.proofs.Stores.{is_store, tells_fragment}
use Rattle.log_join.proofs.store.Store.get.Goals as goal

pub returns-clause-found : goal.returns-clause-found
returns-clause-found c =
    let place = place_of c.args.key in
    let here = get place_cmp c.self.inside.shelves.fragments place in
    subst (λ (x : Cell FragmentParts). TellsFragment c.found.result x)
    (sym (cell_shown keys_total key_of fragment_part c.self.inside.shelves.fragments place) ∙ ap (λ v. fragment_at v c.args.key) c.self.view_is)
    (tells_fragment c.found.result here (IsFragmentOf c.self.inside.guest c.args.key) (subst (λ (x : Option Content). TellsContent c.found.result x)
    (c.get.ensures.value ∙ ap (λ p. get place_cmp c.self.inside.shelves.fragments p) c.from.ensures) c.found.ensures) (c.self.invariant.places place))

pub returns-clause-rules : goal.returns-clause-rules
returns-clause-rules c = subst IsStore c.self.view_is (is_store c.self.inside.guest c.self.inside.shelves c.self.invariant)
