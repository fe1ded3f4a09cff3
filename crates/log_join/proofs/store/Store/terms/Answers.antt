use Rattle.std.proofs.Common.{sym, subst, ℕ, List}
use Rattle.std.specs.Ordering.{nat_cmp}
use Rattle.std.specs.Cmp.{nat_cmp_total}
use Rattle.std.proofs.lemmas.Map.Lookups.{exact_unsigned}
use Rattle.std.proofs.lemmas.Result.{IfOk-weaker}
use Rattle.log_join.specs.Stores.{StoreView, AreTerms, IsOpeningOf}
use Rattle.log_join.specs.machinery.Contents.{opening_part, listed, view_of}
use Rattle.log_join.proofs.Listed.{listed_rising, listed_exact}
use Rattle.log_join.proofs.store.Store.terms.Goals as goal

pub returns : goal.returns
returns c =
    let s = c.self.inside.shelves in
    let guest = c.self.inside.guest in
    let are : AreTerms (view_of guest s) (listed (λ (z : ℕ). z) s.openings.entries) = record {
      rising = listed_rising nat_cmp (λ (z : ℕ). z) s.openings.entries c.terms.ensures.ordered;
      exact = λ t. listed_exact nat_cmp_total (λ (z : ℕ). z) nat_cmp_total opening_part (IsOpeningOf guest t) exact_unsigned s.openings t
          c.terms.ensures.ordered (c.self.invariant.terms t);
    } in
    IfOk-weaker c.terms.result _ _ (λ ts e. subst (λ (xs : List ℕ). AreTerms c.args.self.now xs) (sym e)
    (subst (λ (v : StoreView). AreTerms v (listed (λ (z : ℕ). z) s.openings.entries)) c.self.view_is are)) c.terms.ensures.listed
