use Rattle.std.proofs.Common.{◌≡◌, ◌∙◌, sym, ap, subst, List, ◌++◌}
use Rattle.std.specs.Prelude.{Some}
use Rattle.std.specs.List.{AllByRecursion}
use Rattle.std.specs.BTreeMap.{get}
use Rattle.std.proofs.lemmas.List.Elements.{recursion_from_All}
use Rattle.frame_content.specs.declared.content.Content.{Content}
use Rattle.log_join.specs.machinery.Contents.{listed, fragment_part, FitsAt}
use Rattle.log_join.specs.machinery.Places.{Place, key_of, place_cmp}
use Rattle.log_join.proofs.Shown.{entries_fit}
use Rattle.log_join.proofs.shelves.Shelves.keys.Goals as goal

pub loop-content-init : goal.loop-content-init
loop-content-init c =
    let gives = c.into_iter-content-iterator.ensures.into_iter_gives in
    let m = c.args.self.now.fragments in (
      ap (λ xs. xs ++ listed key_of c.into_iter-content-iterator.result) c.new-keys.ensures.items ∙ ap (listed key_of) gives.0,
      subst (λ (es : List (Place × Content)). AllByRecursion (λ e. FitsAt fragment_part (λ f. f.key ≡ key_of e.0) (Some e.1)) es) (sym gives.0)
          (entries_fit place_cmp fragment_part (λ p f. f.key ≡ key_of p) m c.requires m.entries (recursion_from_All (λ e. get place_cmp m e.0 ≡ Some e.1)
          m.entries gives.6)),
    )
