use Rattle.std.proofs.Common.{◌∙◌, sym, ap, subst, ℕ}
use Rattle.std.specs.Prelude.{Option}
use Rattle.std.specs.Ordering.{nat_cmp}
use Rattle.std.specs.Cmp.{nat_cmp_total}
use Rattle.std.specs.BTreeMap.{get}
use Rattle.fragment_codec.specs.Rules.{OpeningParts}
use Rattle.frame_content.specs.declared.content.Content.{Content}
use Rattle.log_join.specs.Cells.{Cell}
use Rattle.log_join.specs.Stores.{IsStore, IsOpeningOf, opening_at}
use Rattle.log_join.specs.Answers.{TellsOpening}
use Rattle.log_join.specs.machinery.Contents.{TellsContent, opening_part}
use Rattle.log_join.proofs.Shown.{cell_shown}
use Rattle.log_join.proofs.Stores.{is_store, tells_opening}
use Rattle.log_join.proofs.store.Store.opening.Goals as goal

pub returns-clause-found : goal.returns-clause-found
returns-clause-found c =
    let here = get nat_cmp c.self.inside.shelves.openings c.args.term in
    subst (λ (x : Cell OpeningParts). TellsOpening c.found.result x)
    (sym (cell_shown nat_cmp_total (λ (z : ℕ). z) opening_part c.self.inside.shelves.openings c.args.term) ∙ ap (λ v. opening_at v c.args.term) c.self.view_is)
    (tells_opening c.found.result here (IsOpeningOf c.self.inside.guest c.args.term) (subst (λ (x : Option Content). TellsContent c.found.result x)
    c.get.ensures.value c.found.ensures) (c.self.invariant.terms c.args.term))

pub returns-clause-rules : goal.returns-clause-rules
returns-clause-rules c = subst IsStore c.self.view_is (is_store c.self.inside.guest c.self.inside.shelves c.self.invariant)
